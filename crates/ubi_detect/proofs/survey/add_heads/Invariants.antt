use Rattle.ubi_detect.proofs.Prelude.{◌≡◌, ℕ, ◌+◌, ◌/◌, ◌≤◌, List, length, slice_range, vec_len, All, heads_to, step, AreGroups, IsWithin}
use Rattle.ubi_detect.proofs.survey.add_heads.Given as goal

-- the headers of the first units are among the groups
abbrev pub invariant-loop-i : goal.invariant-loop-i
invariant-loop-i l = record {
  groups : (all : List ℕ) → slice_range all l.place (l.place + length l.bytes) ≡ l.bytes → AreGroups (heads_to all (l.place / step)) l.fn.groups.items
      → AreGroups (heads_to all (l.place / step + l.i)) l.groups.items;
  few : vec_len l.groups ≤ 256;
  within : All (IsWithin (l.place / step + l.i)) l.groups.items;
}
