use Rattle.ubi_change.proofs.Prelude.{◌≡◌, ◌*◌, ◌≤◌, true, drop, is_blank, pages_of}
use Rattle.ubi_change.proofs.trim.pages_needed.Given as goal

abbrev pub invariant-loop-needed : goal.invariant-loop-needed
invariant-loop-needed l = record {
  most : l.needed ≤ pages_of l.geometry l.new;
  blank : is_blank (drop (l.needed * l.geometry.page) l.new) ≡ true;
}

abbrev pub decreases-loop-needed : goal.decreases-loop-needed
decreases-loop-needed l = l.needed
