-- Tests of numbers from 0 on, in order.
use Rattle.ubi_detect.proofs.Prelude.{◌≡◌, ℕ, ◌+◌, ◌<◌, Bool, true, false, cond, [], ◌∷◌, zero, suc, inl, inr, refl, ap, sym, ◌∙◌, arith, list_all, list_any, range_with_len, ◌&&◌, ◌||◌, count_by, and_from, and_left, and_right, or_from, or_left, or_right, true≢false, list_all-append, list_any-append, fold-append, below_or_last}
use Rattle.ubi_detect.proofs.Surveyed.{range_more}

module _ (p : ℕ → Bool) where
  any_more : (n : ℕ) → list_any p (range_with_len 0 (n + 1)) ≡ (list_any p (range_with_len 0 n) || (p n || false))
  any_more n = ap (list_any p) (range_more n) ∙ list_any-append p (range_with_len 0 n) (n ∷ [])

  -- one that passes makes the test of all pass
  pub any_here : (n i : ℕ) → i < n → p i ≡ true → list_any p (range_with_len 0 n) ≡ true
  any_here zero i below here = absurd (omega (arith, below))
  any_here (suc n) i below here =
      let e : suc n ≡ n + 1 = omega arith in
      ap (λ k. list_any p (range_with_len 0 k)) e ∙ any_more n ∙ elim (below_or_last i n (omega (arith, below))) [
        | inl less ↦ or_left (list_any p (range_with_len 0 n)) (p n || false) (any_here n i less here)
        | inr same ↦ or_right (list_any p (range_with_len 0 n)) (p n || false) (or_left (p n) false (sym (ap p same) ∙ here))
      ]

  -- one more that doesn't changes nothing
  pub none_more : (n : ℕ) → list_any p (range_with_len 0 n) ≡ false → p n ≡ false → list_any p (range_with_len 0 (n + 1)) ≡ false
  none_more n none here = any_more n ∙ or_from _ _ none (or_from (p n) false here refl)

  pub count_more : (n k : ℕ) (b : Bool) → k ≡ count_by p (range_with_len 0 n) → p n ≡ b
      → k + cond b 1 0 ≡ count_by p (range_with_len 0 (n + 1))
  count_more n k b e here =
      ap (λ k. k + cond b 1 0) e ∙ ap (λ c. count_by p (range_with_len 0 n) + cond c 1 0) (sym here)
      ∙ sym (ap (count_by p) (range_more n) ∙ fold-append (λ a x. a + cond (p x) 1 0) 0 (range_with_len 0 n) (n ∷ []))

  all_more : (n : ℕ) → list_all p (range_with_len 0 (n + 1)) ≡ (list_all p (range_with_len 0 n) && (p n && true))
  all_more n = ap (list_all p) (range_more n) ∙ list_all-append p (range_with_len 0 n) (n ∷ [])

  -- one that fails makes the test of all fail
  pub all_fails : (n i : ℕ) → i < n → p i ≡ false → list_all p (range_with_len 0 n) ≡ false
  all_fails zero i below here = absurd (omega (arith, below))
  all_fails (suc n) i below here =
      let e : suc n ≡ n + 1 = omega arith in
      ap (λ k. list_all p (range_with_len 0 k)) e ∙ all_more n ∙ elim (below_or_last i n (omega (arith, below))) [
        | inl less ↦ and_left (list_all p (range_with_len 0 n)) (p n && true) (all_fails n i less here)
        | inr same ↦ and_right (list_all p (range_with_len 0 n)) (p n && true) (and_left (p n) true (sym (ap p same) ∙ here))
      ]

  -- one more that passes
  pub all_pass : (n : ℕ) → list_all p (range_with_len 0 n) ≡ true → p n ≡ true → list_all p (range_with_len 0 (n + 1)) ≡ true
  all_pass n all here = all_more n ∙ and_from _ _ all (and_from (p n) true here refl)

  -- each passes if all do
  passes_by : (n i : ℕ) → list_all p (range_with_len 0 n) ≡ true → i < n → (b : Bool) → p i ≡ b → p i ≡ true
  passes_by n i all below true e = e
  passes_by n i all below false e = absurd (true≢false (sym all ∙ all_fails n i below e))

  pub passes : (n i : ℕ) → list_all p (range_with_len 0 n) ≡ true → i < n → p i ≡ true
  passes n i all below = passes_by n i all below (p i) refl
