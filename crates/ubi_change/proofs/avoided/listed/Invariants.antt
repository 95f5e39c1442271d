use Rattle.ubi_change.proofs.Prelude.{◌≡◌, ℕ, ◌<◌, false, Some, slice_get, is_listed, target, Step}
use Rattle.ubi_change.proofs.avoided.listed.Given as goal

abbrev pub invariant-loop-i : goal.invariant-loop-i
invariant-loop-i l =
    (k : ℕ) (next : Step) → k < l.i → slice_get l.steps k ≡ Some next → is_listed l.marks (target next) ≡ false
