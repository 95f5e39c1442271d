use Rattle.ubi_json.proofs.Prelude.{◌≡◌, map, take, view, difference_data}
use Rattle.ubi_json.proofs.differences.difference_values.Given as goal

abbrev pub invariant-loop-difference : goal.invariant-loop-difference
invariant-loop-difference l = map view l.values.items ≡ map difference_data (take l.difference-index l.told)
