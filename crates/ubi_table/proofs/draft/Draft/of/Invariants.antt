use Rattle.ubi_table.proofs.Prelude.{◌≡◌, take, from_entries, nat_cmp, IsOrdered}
use Rattle.ubi_table.proofs.draft.Draft.of.Given as goal

abbrev pub invariant-loop-i : goal.invariant-loop-i
invariant-loop-i l = record {
  ordered : IsOrdered nat_cmp l.held;
  of : from_entries {R = nat_cmp} l.held.entries ≡ from_entries (take l.i l.entries);
}
