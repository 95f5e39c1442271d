use Rattle.ubi_change.proofs.Prelude.{◌≡◌, ◌*◌, check_from, blank}
use Rattle.ubi_change.proofs.weak_check.check_with_blank.Given as goal

abbrev pub invariant-loop : goal.invariant-loop
invariant-loop l = l.register ≡ check_from l.state (blank (l.counter * 64))
