use Rattle.ubi_detect.proofs.Prelude.{MatchOption, IsBestOf, NoneSays}
use Rattle.ubi_detect.proofs.groups.image_among.Given as goal

abbrev pub invariant-loop-i : goal.invariant-loop-i
invariant-loop-i l = MatchOption l.best (NoneSays l.groups l.i) (IsBestOf l.groups l.i)
