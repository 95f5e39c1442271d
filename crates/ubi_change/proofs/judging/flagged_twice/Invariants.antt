use Rattle.ubi_change.proofs.Prelude.{◌≡◌, drop, flagged_twice}
use Rattle.ubi_change.proofs.judging.flagged_twice.Given as goal

abbrev pub invariant-loop-at : goal.invariant-loop-at
invariant-loop-at l = flagged_twice (drop l.at l.records) ≡ flagged_twice l.records
