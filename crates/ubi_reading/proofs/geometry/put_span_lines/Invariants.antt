use Rattle.ubi_reading.proofs.Prelude.{◌≡◌, ◌++◌, flat_map, take, vec_items, span_line}
use Rattle.ubi_reading.proofs.geometry.put_span_lines.Given as goal

abbrev pub invariant-loop-span : goal.invariant-loop-span
invariant-loop-span l = vec_items l.text ≡ vec_items l.initial.text ++ flat_map (span_line l.part) (take l.span-index l.spans)
