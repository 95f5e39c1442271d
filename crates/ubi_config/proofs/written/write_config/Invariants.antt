use Rattle.ubi_config.proofs.Prelude.{◌≡◌, ◌∷◌, flat_map, take, head, may_grow, text_of, volume_lines}
use Rattle.ubi_config.proofs.written.write_config.Given as goal

abbrev pub invariant-loop-volume : goal.invariant-loop-volume
invariant-loop-volume l =
    l.text.items
    ≡ text_of (head l.geometry l.image_seq
    ∷ flat_map (volume_lines l.geometry (may_grow l.volumes)) (take l.volume-index l.volumes))
