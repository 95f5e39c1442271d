use Rattle.ubi_change.proofs.Prelude.{◌≡◌, ◌≤◌, drop, length, records_with}
use Rattle.ubi_change.proofs.placing.place.Given as goal

abbrev pub invariant-loop-left : goal.invariant-loop-left
invariant-loop-left l = record {
  within : l.left ≤ length l.parts;
  draft : l.draft ≡ records_with l.fn.draft (drop l.left l.parts);
}

abbrev pub decreases-loop-left : goal.decreases-loop-left
decreases-loop-left l = l.left
