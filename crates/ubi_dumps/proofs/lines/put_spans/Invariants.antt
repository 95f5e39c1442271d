use Rattle.ubi_dumps.proofs.Prelude.{◌≡◌, ◌++◌, flat_map, take, vec_items, span_words}
use Rattle.ubi_dumps.proofs.lines.put_spans.Given as goal

abbrev pub invariant-loop-span : goal.invariant-loop-span
invariant-loop-span l = vec_items l.text ≡ vec_items l.initial.text ++ flat_map span_words (take l.span-index l.spans)
