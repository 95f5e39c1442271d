-- The pieces of a volume, in order: between two consecutive ones there is none.
use Rattle.ubi_compose.proofs.Prelude.{leb_written, ◌≡◌, ℕ, zero, suc, ◌+◌, ◌-◌, ◌<◌, ◌≤◌, List, [], ◌++◌, refl, ap, sym, ◌∙◌, arith, zero-add, append-nil, Option, None, Result, Err, flat_map, range_with_len, option_map_or, Agreed, All, Wrote, front_of, those, PutError, Device, Piece, HasPut, IsFirstFrom, IsNext, IsReadIn, IsReadOf, Pieces, first_lebs, piece_bytes, volume_bytes}
use Rattle.ubi_compose.proofs.Received.{both_put, first_of, front_put, next, put_narrowed, rest}

-- what is nothing at each number is nothing
nothing : (f : ℕ → List ℕ) (a k : ℕ) → ((i : ℕ) → a ≤ i → i < a + k → f i ≡ []) → flat_map f (range_with_len a k) ≡ []
nothing f a zero h = refl
nothing f a (suc k) h =
    ap (λ x. x ++ flat_map f (range_with_len (a + 1) k)) (h a (omega arith) (omega arith))
    ∙ nothing f (a + 1) k (λ i low high. h i (omega arith) (omega arith))

module _ (d : Device) (ps : Pieces) (id n : ℕ) where
  gap : (l : ℕ) → n ≤ l → ((i : ℕ) → n ≤ i → i < l → ps.at id i ≡ None) → (bytes : List ℕ)
      → first_lebs d ps id l bytes ≡ first_lebs d ps id n bytes
  gap l low none bytes =
      let f = λ (i : ℕ). leb_written d ps id i bytes in
      let total : n + (l - n) ≡ l = omega arith in
      let begin : 0 + n ≡ n = zero-add n in
      ap (λ k. flat_map f (range_with_len 0 k)) (sym total) ∙ front_of f 0 n (l - n)
      ∙ ap (λ b. flat_map f (range_with_len 0 n) ++ flat_map f (range_with_len b (l - n))) begin
      ∙ ap (λ x. flat_map f (range_with_len 0 n) ++ x)
      (nothing f n (l - n) (λ i a b. ap (λ o. option_map_or (λ q. piece_bytes d q bytes) o []) (none i a (omega arith))))
      ∙ append-nil (flat_map f (range_with_len 0 n))

  -- none is left
  pub none_left : n ≤ ps.count id → IsNext ps id n None → (bytes : List ℕ)
      → volume_bytes d ps id bytes ≡ first_lebs d ps id n bytes
  none_left few none = gap (ps.count id) few none

  -- one more is written, or isn't
  module _ (q : Piece) (is : IsFirstFrom ps id n q) where
    abbrev pub behind : ℕ
    behind = q.header.lnum + 1

    one_more : (bytes : List ℕ) → first_lebs d ps id behind bytes ≡ first_lebs d ps id n bytes ++ piece_bytes d q bytes
    one_more bytes =
        next (λ l. leb_written d ps id l) q.header.lnum bytes
        ∙ ap (λ x. x ++ leb_written d ps id q.header.lnum bytes) (gap q.header.lnum is.low is.none bytes)
        ∙ ap (λ o. first_lebs d ps id n bytes ++ option_map_or (λ p. piece_bytes d p bytes) o []) is.there

    module _ (at : ℕ) (agrees : Agreed) (a b c : Option (List ℕ)) (l m : ℕ)
        (wrote : Wrote agrees a b (those (first_lebs d ps id n)) All l m) where
      pub piece_put : (r : Result ℕ PutError)
          → HasPut (IsReadOf d.geometry q.origin q.header at) agrees b c (piece_bytes d q) m r
          → HasPut (IsReadIn d.geometry ps at) agrees a c (first_lebs d ps id behind) l r
      piece_put r h = both_put (IsReadIn d.geometry ps at) agrees (first_lebs d ps id behind) (first_lebs d ps id n)
          (piece_bytes d q) one_more a b c l m r wrote
          (put_narrowed agrees agrees (λ bytes holds. holds) (IsReadOf d.geometry q.origin q.header at)
          (IsReadIn d.geometry ps at) (λ number of. (id, q.header.lnum, q, is.inside, is.there, of)) (piece_bytes d q) b c m r
          h)

      pub piece_failed : (e : PutError)
          → HasPut (IsReadOf d.geometry q.origin q.header at) agrees b c (piece_bytes d q) m (Err e)
          → HasPut (IsReadIn d.geometry ps at) agrees a c (volume_bytes d ps id) l (Err e)
      piece_failed e h =
          let inside = is.inside in
          front_put (IsReadIn d.geometry ps at) agrees (volume_bytes d ps id) (first_lebs d ps id behind)
          (rest (λ i. leb_written d ps id i) (ps.count id) behind)
          (first_of (λ i. leb_written d ps id i) (ps.count id) behind (omega arith)) a c l e (piece_put (Err e) h)
