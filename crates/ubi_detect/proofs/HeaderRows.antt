-- Headers that stand in a row, one at the beginning of each eraseblock: their places, and the size that these say.
use Rattle.ubi_detect.proofs.Prelude.{◌≡◌, ℕ, ◌+◌, ◌-◌, ◌*◌, ◌<◌, ◌≤◌, List, [], ◌∷◌, ◌++◌, length, zero, suc, inl, inr, refl, ap, sym, ◌∙◌, subst, arith, ◌∣◌, slice_index_or, dvd-mul_left, get_or-append_seam, get_or_append_left, length-append, below_or_last, IsSpacing, first_place, last_place}
use Rattle.ubi_detect.proofs.Grouped.{last_is}

module _ (first q : ℕ) where
  -- the places where the first n eraseblocks begin
  abbrev pub row : ℕ → List ℕ
  row zero = []
  row (suc n) = row n ++ (first + n * q) ∷ []

  pub row_length : (n : ℕ) → length (row n) ≡ n
  row_length zero = refl
  row_length (suc n) = let l = length-append (row n) ((first + n * q) ∷ []) in let e = row_length n in omega (arith, l, e)

  row_at : (n i d : ℕ) → i < n → slice_index_or (row n) i d ≡ first + i * q
  row_at zero i d below = absurd (omega (arith, below))
  row_at (suc n) i d below = let l = row_length n in elim (below_or_last i n (omega (arith, below))) [
    | inl less ↦ get_or_append_left (row n) ((first + n * q) ∷ []) d i (omega (arith, l, less)) ∙ row_at n i d less
    | inr same ↦ ap (λ k. slice_index_or (row n ++ (first + n * q) ∷ []) k d) (same ∙ sym l)
        ∙ get_or-append_seam (row n) (first + n * q) [] d ∙ ap (λ k. first + k * q) (sym same)
  ]

  pub row_first : (n : ℕ) → 1 ≤ n → first_place (row n) ≡ first
  row_first n some = row_at n 0 0 some ∙ omega arith

  pub row_last : (n : ℕ) → 1 ≤ n → last_place (row n) ≡ first + (n - 1) * q
  row_last zero some = absurd (omega (arith, some))
  row_last (suc n) some =
      let e : n ≡ suc n - 1 = omega arith in last_is (first + n * q) (row n) ∙ ap (λ k. first + k * q) e

  distance : (n i d : ℕ) → i < n → slice_index_or (row n) i d - first_place (row n) ≡ i * q
  distance n i d below =
      let here = row_at n i d below in
      let start = row_first n (omega (arith, below)) in omega (arith, here, start)

  -- the size that two or more say is the distance of two neighbours
  pub row_spacing : (n : ℕ) → 2 ≤ n → IsSpacing (row n) q
  row_spacing n two = record {
    divides = λ i d below.
        let P : ℕ → Type 0 = λ x. q ∣ x in
        let l = row_length n in subst P (sym (distance n i d (omega (arith, l, below)))) (dvd-mul_left q i);
    greatest = λ r all.
        let P : ℕ → Type 0 = λ x. r ∣ x in
        let l = row_length n in
        let e : 1 * q ≡ q = omega arith in
        subst P (distance n 1 0 (omega (arith, two)) ∙ e) (all 1 0 (omega (arith, l, two)));
  }
