use Rattle.ubi_writing.proofs.Prelude.{◌≡◌, take, vec_items, extent_in, extent_len, all_described}
use Rattle.ubi_writing.proofs.folder_config.config_volumes.Given as goal

abbrev pub invariant-loop-listed : goal.invariant-loop-listed
invariant-loop-listed l =
    vec_items l.volumes ≡ all_described (λ id. extent_len (extent_in l.places id)) (take l.listed-index l.listed-items)
