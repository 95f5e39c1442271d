use Rattle.ubi_media.proofs.Prelude.{IsQuotient}
use Rattle.ubi_media.proofs.division.divide.Given as goal

-- the quotient goes on so far
abbrev pub invariant-loop-k : goal.invariant-loop-k
invariant-loop-k l = IsQuotient l.words l.k l.initial.quotient l.quotient
