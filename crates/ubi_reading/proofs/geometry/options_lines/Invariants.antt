use Rattle.ubi_reading.proofs.Prelude.{◌≡◌, take, vec_items, options_lines}
use Rattle.ubi_reading.proofs.geometry.options_lines.Given as goal

abbrev pub invariant-loop-told : goal.invariant-loop-told
invariant-loop-told l = vec_items l.text ≡ options_lines l.part l.len (take l.told-index l.found)
