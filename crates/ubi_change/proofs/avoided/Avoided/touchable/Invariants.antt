use Rattle.ubi_change.proofs.Prelude.{◌≡◌, ◌≤◌}
use Rattle.ubi_change.proofs.Touchable.{touchable_first}
use Rattle.ubi_change.proofs.avoided.Avoided.touchable.Given as goal

abbrev pub invariant-loop-p : goal.invariant-loop-p
invariant-loop-p l = record {
  left : l.left ≡ touchable_first l.self l.surveyed.states l.p;
  most : l.left ≤ l.p;
}
