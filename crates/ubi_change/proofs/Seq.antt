-- The eraseblocks that name the image, and when an eraseblock isn't the only one.
use Rattle.ubi_change.proofs.Prelude.{◌≡◌, ◌≢◌, ℕ, zero, suc, ◌+◌, ◌<◌, ◌⊎◌, inl, inr, Bool, true, false, cond, not, List, [], ◌∷◌, length, refl, ap, sym, ◌∙◌, arith, ◌==◌, ◌&&◌, count_by, cases_eq, nat_tests, sum_by-cons, Sizes, block, carriers, is_carrier, seq_of, Agrees, is_sole_carrier}

-- an eraseblock other than b names this image, if it isn't 0
abbrev pub NamedBeside : Sizes → ℕ → List (List ℕ) → ℕ → Type 0
NamedBeside s seq bs b = (seq ≡ 0) ⊎ ((q : ℕ) × (q ≢ b) × (q < length bs) × (seq_of s (block bs q) ≡ seq))

-- of eraseblocks that pass a test
module _ (p : List ℕ → Bool) where
  abbrev Passes : List (List ℕ) → ℕ → Type 0
  Passes bs q = (q < length bs) × (p (block bs q) ≡ true)

  count_cons : (b : List ℕ) (bs : List (List ℕ)) (t : Bool) → p b ≡ t
      → count_by p (b ∷ bs) ≡ cond t 1 0 + count_by p bs
  count_cons b bs t e = sum_by-cons (λ x. cond (p x) 1 0) b bs ∙ ap (λ t. cond t 1 0 + count_by p bs) e

  -- where some are counted, one is there
  one_there : (bs : List (List ℕ)) → count_by p bs ≢ 0 → (q : ℕ) × Passes bs q
  one_there [] h = absurd (h refl)
  one_there (b ∷ bs) h = by_test (p b) refl (one_there bs)
    where
      by_test : (t : Bool) → p b ≡ t → (count_by p bs ≢ 0 → (q : ℕ) × Passes bs q) → (q : ℕ) × Passes (b ∷ bs) q
      by_test true e rest = (0, (omega arith, e))
      by_test false e rest =
          let c = count_cons b bs false e in
          let r = rest (λ k. h (c ∙ ap (λ n. 0 + n) k)) in
          (suc r.0, ((let l = r.1.0 in omega arith), r.1.1))

  -- where not just one is counted, another is there beside one that is
  another : (bs : List (List ℕ)) (i : ℕ) → Passes bs i → count_by p bs ≢ 1 → (q : ℕ) × (q ≢ i) × Passes bs q
  another [] i h many = (let l = h.0 in absurd (omega arith))
  another (b ∷ bs) zero h many =
      let c = count_cons b bs true h.1 in
      let r = one_there bs (λ k. many (c ∙ ap (λ n. 1 + n) k)) in
      (suc r.0, (λ e. omega arith), ((let l = r.1.0 in omega arith), r.1.1))
  another (b ∷ bs) (suc i) h many =
      by_test (p b) refl (another bs i ((let l = h.0 in omega arith), h.1))
    where
      by_test : (t : Bool) → p b ≡ t → (count_by p bs ≢ 1 → (q : ℕ) × (q ≢ i) × Passes bs q)
          → (q : ℕ) × (q ≢ suc i) × Passes (b ∷ bs) q
      by_test true e rest = (0, (λ e. omega arith), (omega arith, e))
      by_test false e rest =
          let c = count_cons b bs false e in
          let r = rest (λ k. many (c ∙ ap (λ n. 0 + n) k)) in
          (suc r.0, (λ e. r.1 (let same : r.0 ≡ i = omega arith in same)), ((let l = r.2.0 in omega arith), r.2.1))

module _ (s : Sizes) (seq : ℕ) (bs : List (List ℕ)) (agrees : Agrees s seq bs) where
  named_carrier : (n : ℕ) → n ≢ 0 → not (n == 0) ≡ true
  named_carrier n h = grind (arith, nat_tests)

  carrier_named : (n : ℕ) → not (n == 0) ≡ true → n ≢ 0
  carrier_named n h = grind (arith, nat_tests)

  not_one : (b : Bool) (n : ℕ) → b ≡ true → (b && (n == 1)) ≡ false → n ≢ 1
  not_one true n e h = grind (arith, nat_tests)
  not_one false n e h = absurd (cc)

  -- an eraseblock that isn't the sole carrier has one beside it
  pub not_sole : (p : ℕ) → is_sole_carrier s bs p ≡ false → NamedBeside s seq bs p
  not_sole p sole = elim agrees.some [
    | inl unnamed ↦ inl unnamed
    | inr r ↦ elim (cases_eq seq 0) [
      | inl unnamed ↦ inl unnamed
      | inr other ↦ elim (cases_eq r.0 p) [
        | inr apart ↦ inr (r.0, apart, r.1, r.2)
        | inl same ↦
            let here : is_carrier s (block bs r.0) ≡ true = named_carrier (seq_of s (block bs r.0))
            (λ e. other (sym r.2 ∙ e)) in
            let many : carriers s bs ≢ 1 = not_one (is_carrier s (block bs p)) (carriers s bs)
            (ap (λ (q : ℕ). is_carrier s (block bs q)) (sym same) ∙ here) sole in
            let q = another (is_carrier s) bs r.0 (r.1, here) many in
            inr (
              q.0,
              (λ e. q.1 (e ∙ sym same)),
              q.2.0,
              agrees.all q.0 q.2.0 (carrier_named (seq_of s (block bs q.0)) q.2.1),
            )
      ]
    ]
  ]
