use Rattle.ubi_compose.proofs.Prelude.{◌≡◌, ◌++◌, take, vec_items, laid_blocks, laid_bytes, new_ec}
use Rattle.std.specs.List.{flat_map}
use Rattle.ubi_compose.proofs.memory_image.put_volumes.Given as goal

-- those of the volumes so far are there
abbrev pub invariant-loop-numbered : goal.invariant-loop-numbered
invariant-loop-numbered l =
    vec_items l.image ≡ vec_items l.initial.image ++ flat_map (laid_bytes l.meaning.sizes (new_ec l.meaning.image_seq))
    (laid_blocks l.meaning.sizes (take l.numbered-index l.volumes))
