use Rattle.ubi_writing.proofs.Prelude.{◌≡◌, take, all_replaced}
use Rattle.ubi_writing.proofs.update.all_replaced.Given as goal

abbrev pub invariant-loop-i : goal.invariant-loop-i
invariant-loop-i l = l.olds.items ≡ all_replaced (take l.i l.edits)
