use Rattle.ubi_media.proofs.Prelude.{inl, inr, arith, cases_lt, get_or_past}
use Rattle.ubi_media.proofs.division.clear_end.Goals as goal

pub returns-clause-clear : goal.returns-clause-clear
returns-clause-clear c k from = elim (cases_lt k 1788) [
  | inl below ↦ c.loop-k.invariant.clear k from (omega (arith, below, c.loop-k.auto.k, c.loop-k-test.false))
  | inr past ↦ get_or_past c.loop-k.quotient k 0 (omega (arith, past, c.loop-k.invariant.long))
]
