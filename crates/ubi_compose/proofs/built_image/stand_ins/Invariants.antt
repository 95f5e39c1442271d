use Rattle.ubi_compose.proofs.Prelude.{◌≡◌, map, take, vec_items, stand_in_item}
use Rattle.ubi_compose.proofs.built_image.stand_ins.Given as goal

-- those of the parts so far
abbrev pub invariant-loop-part : goal.invariant-loop-part
invariant-loop-part l = vec_items l.volumes ≡ map (stand_in_item l.geometry) (take l.part-index l.parts)
