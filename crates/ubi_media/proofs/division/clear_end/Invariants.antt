use Rattle.ubi_media.proofs.Prelude.{◌≡◌, ℕ, ◌<◌, ◌≤◌, get_or, length, SameBelow}
use Rattle.ubi_media.proofs.division.clear_end.Given as goal

-- zeros so far, and the words before them as they were
abbrev pub invariant-loop-k : goal.invariant-loop-k
invariant-loop-k l = record {
  long : length l.quotient ≡ 1788;
  same : SameBelow l.initial.quotient l.quotient 1536;
  clear : (i : ℕ) → 1536 ≤ i → i < l.k → get_or l.quotient i 0 ≡ 0;
}
