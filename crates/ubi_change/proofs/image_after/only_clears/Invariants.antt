use Rattle.ubi_change.proofs.Prelude.{◌≡◌, ℕ, ◌<◌, true, get_or}
use Rattle.ubi_change.proofs.Clears.{clears}
use Rattle.ubi_change.proofs.image_after.only_clears.Given as goal

abbrev pub invariant-loop-i : goal.invariant-loop-i
invariant-loop-i l = (k : ℕ) → k < l.i → clears (get_or l.old k 0) (get_or l.new k 0) ≡ true
