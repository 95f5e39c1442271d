use Rattle.ubi_writing.proofs.Prelude.{◌≡◌, take, Some, edits_for}
use Rattle.ubi_writing.proofs.asks.edits_for.Given as goal

abbrev pub invariant-loop-i : goal.invariant-loop-i
invariant-loop-i l = edits_for l.table (take l.i l.asks) ≡ Some l.edits.items
