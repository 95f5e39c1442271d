use Rattle.ubi_detect.proofs.Prelude.{◌≡◌, ◌+◌, ◌%◌, true, list_all, range_with_len, ◌==◌, not}
use Rattle.ubi_detect.proofs.sure.is_prime.Given as goal

abbrev pub invariant-loop-e : goal.invariant-loop-e
invariant-loop-e l = list_all (λ e. not (l.number % (e + 2) == 0)) (range_with_len 0 l.e) ≡ true
