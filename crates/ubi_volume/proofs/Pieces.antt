-- The pieces of a static volume's contents.
use Rattle.ubi_volume.proofs.Prelude.{◌≡◌, ℕ, suc, ◌+◌, ◌-◌, ◌*◌, ◌%◌, ◌<◌, ◌≤◌, List, [], ◌∷◌, ◌++◌, length, take, drop, sym, ap, ◌∙◌, arith, length-append, length-take, length-drop, flat_map, slice_index, div-add-mod, mod-lt, take-add, take_all, div_below, mul-le, pieces, share}
use Rattle.std.proofs.Common.{min}

module _ (size : ℕ) (some : 1 ≤ size) where
  -- they are enough
  pub pieces_suffice : (n : ℕ) → n ≤ pieces size n * size
  pieces_suffice n =
      let whole = div-add-mod (n + (size - 1)) size in
      let rest : (n + (size - 1)) % size < size = mod-lt (n + (size - 1)) (omega arith) in
      let turned : size * pieces size n ≡ pieces size n * size = omega arith in
      omega arith

  -- and each has a byte
  pub piece_begins : (n k : ℕ) → k < pieces size n → k * size < n
  piece_begins n k l =
      let whole = div-add-mod (n + (size - 1)) size in
      let most : (k + 1) * size ≤ pieces size n * size = mul-le (k + 1) size (pieces size n) size (omega arith)
      (omega arith) in
      let turned : size * pieces size n ≡ pieces size n * size = omega arith in
      let next : (k + 1) * size ≡ k * size + size = omega arith in
      omega arith

  -- a text that fits a number of LEBs has no more pieces
  pub pieces_few : (n m : ℕ) → n ≤ m * size → pieces size n ≤ m
  pieces_few n m h =
      let next : (m + 1) * size ≡ m * size + size = omega arith in
      let less : pieces size n < m + 1 = div_below (n + (size - 1)) size (m + 1) (omega arith) (omega arith) in
      omega arith

  pub length-share : (text : List ℕ) (k : ℕ) → length (share size text k) ≡ min size (length text - k * size)
  length-share text k = length-take size (drop (k * size) text) ∙ ap (min size) (length-drop (k * size) text)

  pub share_some : (text : List ℕ) (k : ℕ) → k < pieces size (length text) → 1 ≤ length (share size text k)
  share_some text k l = let n = length-share text k in let begin = piece_begins (length text) k l in omega arith

  pub share_most : (text : List ℕ) (k : ℕ) → length (share size text k) ≤ size
  share_most text k = let n = length-share text k in omega arith

  -- all but the last are full
  pub share_full : (text : List ℕ) (k : ℕ) → k + 1 < pieces size (length text) → length (share size text k) ≡ size
  share_full text k l =
      let n = length-share text k in
      let begin : (k + 1) * size < length text = piece_begins (length text) (k + 1) l in
      let next : (k + 1) * size ≡ k * size + size = omega arith in
      omega arith

-- one more piece, and all of them
pub share_more : (size : ℕ) (text : List ℕ) (k : ℕ)
    → take (k * size) text ++ share size text k ≡ take ((k + 1) * size) text
share_more size text k =
    let next : k * size + size ≡ (k + 1) * size = omega arith in
    sym (take-add (k * size) size text) ∙ ap (λ n. take n text) next

pub share_none : (size : ℕ) (text : List ℕ) → take (0 * size) text ≡ take 0 text
share_none size text = let none : 0 * size ≡ 0 = omega arith in ap (λ n. take n text) none

pub shares_all : (size : ℕ) → 1 ≤ size → (text : List ℕ) → take (pieces size (length text) * size) text ≡ text
shares_all size some text = take_all (pieces size (length text) * size) text (pieces_suffice size some (length text))

-- pieces that are no larger than a size
pub most_pieces : (f : ℕ → List ℕ) (size : ℕ) (ps : List ℕ)
    → ((i : ℕ) → i < length ps → length (f (slice_index ps i)) ≤ size) → length (flat_map f ps) ≤ length ps * size
most_pieces f size [] most = omega arith
most_pieces f size (p ∷ ps) most =
    let first : length (f p) ≤ size = most 0 (omega arith) in
    let rest = most_pieces f size ps (λ i b. most (suc i) (omega arith)) in
    let both = length-append (f p) (flat_map f ps) in
    let next : suc (length ps) * size ≡ length ps * size + size = omega arith in
    omega (arith, first, rest, both, next)
