use Rattle.ubi_json.proofs.Prelude.{◌≡◌, map, take, view, span_data}
use Rattle.ubi_json.proofs.geometry.span_values.Given as goal

abbrev pub invariant-loop-span : goal.invariant-loop-span
invariant-loop-span l = map view l.values.items ≡ map (span_data l.part) (take l.span-index l.spans)
