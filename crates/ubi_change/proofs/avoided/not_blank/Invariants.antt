use Rattle.ubi_change.proofs.Prelude.{SayBlank}
use Rattle.ubi_change.proofs.avoided.not_blank.Given as goal

abbrev pub invariant-loop-p : goal.invariant-loop-p
invariant-loop-p l = SayBlank l.marks l.surveyed.states l.p
