use Rattle.ubi_detect.proofs.Prelude.{◌≡◌, ℕ, ◌<◌, ◌≤◌, length, Group, IsAdded}
use Rattle.std.proofs.Common.{slice_index_or}
use Rattle.ubi_detect.proofs.groups.add_to_each.Given as goal

-- the header was added to the first groups, and the others are as they were
abbrev pub invariant-loop-i : goal.invariant-loop-i
invariant-loop-i l = record {
  many : length l.groups ≡ length l.fn.groups;
  done : (k : ℕ) (d : Group) → k < l.i → k < length l.fn.groups → IsAdded l.head (slice_index_or l.fn.groups k d) (slice_index_or l.groups k d);
  rest : (k : ℕ) (d : Group) → l.i ≤ k → slice_index_or l.groups k d ≡ slice_index_or l.fn.groups k d;
}
