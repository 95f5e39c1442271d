-- The division of the pieces of a message by a multiple of the generator that has few terms:
-- x^(64 * 252) + x^(64 * 236) + x^(64 * 202) + x^(64 * 59) + x^(64 * 28) + 1.
use Rattle.std.specs.Prelude.{◌≡◌, ℕ, zero, suc, ◌+◌, ◌^◌, ◌<◌, ◌≤◌, bit_xor, List, [], ◌∷◌, ◌++◌, length, take, slice_index, slice_index_or}
use Rattle.std.specs.Int.{w64, from_le_bytes, to_le_bytes}
use Rattle.ubi_media.specs.Check.{check_from}

-- the word at a place of a piece: the number of its eight bytes, the lowest first
abbrev pub word_at : List (List ℕ) → ℕ → ℕ
word_at words k = from_le_bytes w64 (slice_index_or words k [])

-- the powers of x^64 in the divisor, except the highest
abbrev pub powers : List ℕ
powers = 236 ∷ 202 ∷ 59 ∷ 28 ∷ 0 ∷ []

-- the sum of the elements that stand so far after a place
abbrev pub sum_behind : List ℕ → List ℕ → ℕ → ℕ
sum_behind [] xs k = 0
sum_behind (d ∷ ds) xs k = bit_xor (slice_index xs (k + d)) (sum_behind ds xs k)

-- what is left of the word at a place, once the divisor was taken off as often as the quotient says up to that place;
-- the 252 words that were carried stand before the quotient's words
abbrev pub left_of : List (List ℕ) → List ℕ → ℕ → ℕ
left_of words quotient k = bit_xor (word_at words k) (sum_behind powers quotient k)

-- the bytes of n words, each of which is given by its place
unfoldable pub bytes_of : (ℕ → ℕ) → ℕ → List ℕ
bytes_of word zero = []
bytes_of word (suc n) = bytes_of word n ++ to_le_bytes w64 (word n)

-- the first 252 words of a quotient stand for a state: going on from the state over 252 words 0 is going on from 0 over
-- what the words of the quotient take off from these
pub record Carries (quotient : List ℕ) (state : ℕ) : Type 0 where
  pub fits : state < 2 ^ 32
  pub after : check_from state (bytes_of (λ k. 0) 252)
      ≡ check_from 0 (bytes_of (sum_behind powers (take 252 quotient)) 252)

-- the quotient goes on by what is left of each of the first words of a piece, and stays the same before and after
pub record IsQuotient (piece : List (List ℕ)) (count : ℕ) (before quotient : List ℕ) : Type 0 where
  pub narrow : (k : ℕ) → slice_index quotient k < 2 ^ 64
  pub carried : (k : ℕ) → k < 252 → slice_index quotient k ≡ slice_index before k
  pub words : (k : ℕ) → k < count → slice_index quotient (252 + k) ≡ left_of piece quotient k
  pub behind : (k : ℕ) → 252 + count ≤ k → slice_index quotient k ≡ slice_index before k

-- the bytes of what remains of the last piece: what is left of its last 252 words
pub record IsPieceRemainder (piece : List (List ℕ)) (quotient : List ℕ) (remainder : List (List ℕ)) : Type 0 where
  pub long : length remainder ≡ 252
  pub words : (k : ℕ) → k < 252
      → slice_index_or remainder k [] ≡ to_le_bytes w64 (left_of piece quotient (1284 + k))
