-- Entries by number with other values: their order stays, and so does what is found among them, except the value.
use Rattle.ubi_scan.proofs.Prelude.{◌≡◌, ℕ, ◌+◌, inl, inr, T, cond, List, [], ◌∷◌, refl, ap, sym, ◌∙◌, subst, Some, option_map, nat_cmp_total, FinMap, from_entries, is_sorted, nat_cmp-IsAntisymmetric, below_all, sum_by, is_lt, nat_cmp, exact_unsigned, ◌&&◌, map, fold, find}
use Rattle.std.specs.FinMap as finite
use Rattle.ubi_scan.proofs.Entries.{sorted_entries}
use Rattle.ubi_scan.proofs.Keys.{told}
use Rattle.ubi_scan.proofs.TrueTests.{true_is}

module _ {X Y : Type 0} (f : ℕ → X → Y) where
  abbrev pub revalued : List (ℕ × X) → List (ℕ × Y)
  revalued es = map (λ (e : ℕ × X). (e.0, f e.0 e.1)) es

  below_same : (n : ℕ) (es : List (ℕ × X)) → below_all nat_cmp n (revalued es) ≡ below_all nat_cmp n es
  below_same n [] = refl
  below_same n (e ∷ es) = ap (λ b. is_lt (nat_cmp n e.0) && b) (below_same n es)

  pub order_same : (es : List (ℕ × X)) → is_sorted nat_cmp (revalued es) ≡ is_sorted nat_cmp es
  order_same [] = refl
  order_same (e ∷ es) = ap (λ b. b && is_sorted nat_cmp (revalued es)) (below_same e.0 es)
      ∙ ap (λ b. below_all nat_cmp e.0 es && b) (order_same es)

  pub find_revalued : (n : ℕ) (es : List (ℕ × X)) → find nat_cmp n (revalued es) ≡ option_map (f n) (find nat_cmp n es)
  find_revalued n [] = refl
  find_revalued n (e ∷ es) = elim (told nat_cmp nat_cmp_total exact_unsigned n e.0) [
    | inl t ↦ ap (λ b. cond b (Some (f e.0 e.1)) (find nat_cmp n (revalued es))) t.0
        ∙ ap (λ (k : ℕ). Some (f k e.1)) (sym t.1)
        ∙ sym (ap (λ b. option_map (f n) (cond b (Some e.1) (find nat_cmp n es))) t.0)
    | inr t ↦ ap (λ b. cond b (Some (f e.0 e.1)) (find nat_cmp n (revalued es))) t.0
        ∙ find_revalued n es
        ∙ sym (ap (λ b. option_map (f n) (cond b (Some e.1) (find nat_cmp n es))) t.0)
  ]

  -- what doesn't change sums up to the same
  module _ (before : X → ℕ) (after : Y → ℕ) (same : (k : ℕ) (x : X) → after (f k x) ≡ before x) where
    pub sums_same : (es : List (ℕ × X)) (n : ℕ)
        → fold (λ k (y : Y). k + after y) n (map (λ (e : ℕ × Y). e.1) (revalued es))
        ≡ fold (λ k (x : X). k + before x) n (map (λ (e : ℕ × X). e.1) es)
    sums_same [] n = refl
    sums_same (e ∷ es) n =
        ap (λ k. fold (λ k (y : Y). k + after y) (n + k) (map (λ (e : ℕ × Y). e.1) (revalued es))) (same e.0 e.1)
        ∙ sums_same es (n + before e.1)

  module _ (m : FinMap nat_cmp X) where
    abbrev pub revalued_map : FinMap nat_cmp Y
    revalued_map = from_entries {R = nat_cmp} (revalued (finite.entries m))

    pub get_revalued : (n : ℕ) → finite.get revalued_map n ≡ option_map (f n) (finite.get m n)
    get_revalued n =
        finite.get-from_entries nat_cmp_total (revalued (finite.entries m)) n ∙ find_revalued n (finite.entries m)
        ∙ ap (option_map (f n)) (sym (finite.get-entries m n))

    pub sorted_revalued : T (is_sorted nat_cmp (revalued (finite.entries m)))
    sorted_revalued = subst T (sym (order_same (finite.entries m))) (finite.entries_sorted m)

    pub entries_revalued : finite.entries revalued_map ≡ revalued (finite.entries m)
    entries_revalued = sorted_entries (revalued (finite.entries m)) (true_is _ sorted_revalued)

    -- a map that has these values is this one
    pub revalued_is : (n : FinMap nat_cmp Y) → ((k : ℕ) → finite.get n k ≡ option_map (f k) (finite.get m k))
        → revalued_map ≡ n
    revalued_is n same = finite.same_map nat_cmp_total nat_cmp-IsAntisymmetric revalued_map n
        (λ k. get_revalued k ∙ sym (same k))

    -- and has the same sum of what doesn't change
    pub sum_revalued : (before : X → ℕ) (after : Y → ℕ) → ((k : ℕ) (x : X) → after (f k x) ≡ before x)
        → sum_by after (finite.values revalued_map) ≡ sum_by before (finite.values m)
    sum_revalued before after same = ap (λ es. sum_by after (map (λ (e : ℕ × Y). e.1) es)) entries_revalued
        ∙ sums_same before after same (finite.entries m) 0
