use Rattle.ubi_json.proofs.Prelude.{◌≡◌, map, take, view, detected_data}
use Rattle.ubi_json.proofs.geometry.detected_values.Given as goal

abbrev pub invariant-loop-told : goal.invariant-loop-told
invariant-loop-told l = map view l.values.items ≡ map (detected_data l.part) (take l.told-index l.found)
