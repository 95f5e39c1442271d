use Rattle.ubi_calls.proofs.Prelude.{length}
use Rattle.ubi_calls.proofs.EditTexts.{IsReadSoFar}
use Rattle.ubi_calls.proofs.edit_lines.asks_in.Given as goal

abbrev pub invariant-loop-rest : goal.invariant-loop-rest
invariant-loop-rest l = IsReadSoFar l.text l.rest l.size l.at l.asks.items

abbrev pub decreases-loop-rest : goal.decreases-loop-rest
decreases-loop-rest l = length l.rest
