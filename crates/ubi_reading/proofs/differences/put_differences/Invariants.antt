use Rattle.ubi_reading.proofs.Prelude.{◌≡◌, ◌++◌, take, vec_items, flat_map, difference_line}
use Rattle.ubi_reading.proofs.differences.put_differences.Given as goal

abbrev pub invariant-loop-difference : goal.invariant-loop-difference
invariant-loop-difference l =
    vec_items l.text ≡ vec_items l.initial.text ++ flat_map difference_line (take l.difference-index l.told)
