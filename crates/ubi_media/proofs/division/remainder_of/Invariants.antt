use Rattle.ubi_media.proofs.Prelude.{◌≡◌, ℕ, ◌+◌, ◌<◌, [], length, get_or, w64, to_le_bytes, left_of}
use Rattle.ubi_media.proofs.division.remainder_of.Given as goal

-- the words that remain so far
abbrev pub invariant-loop-k : goal.invariant-loop-k
invariant-loop-k l = record {
  long : length l.remainder ≡ 252;
  words : (i : ℕ) → i < l.k → get_or l.remainder i [] ≡ to_le_bytes w64 (left_of l.words l.quotient (1284 + i));
}
