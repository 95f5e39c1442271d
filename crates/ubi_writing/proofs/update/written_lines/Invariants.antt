use Rattle.ubi_writing.proofs.Prelude.{◌≡◌, take, written_lines}
use Rattle.ubi_writing.proofs.update.written_lines.Given as goal

abbrev pub invariant-loop-i : goal.invariant-loop-i
invariant-loop-i l = l.text.items ≡ written_lines l.plan.layings.items (take l.i l.parts) (take l.i l.olds.items)
