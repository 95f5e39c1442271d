-- The first entry of a volume from a number on, in the order of LEBs.
use Rattle.ubi_scan.proofs.Prelude.{◌≡◌, ◌≢◌, ℕ, ◌<◌, ◌≤◌, ◌⊎◌, inl, inr, false, List, [], ◌∷◌, refl, ap, sym, ◌∙◌, subst, arith, Option, Some, None, option_map, BTreeMap, IsRangeOf, nat_cmp_is, is_gt, nat_cmp, ordering_then, Ordering, Less, Equal, Greater, Included, Unbounded, le_from_not_gt, below_same_or_above, places_of, Leb, leb_cmp, Candidate}
use Rattle.std.specs.BTreeMap as tree
use Rattle.std.specs.FinMap as finite
use Rattle.ubi_scan.proofs.CandidatePlaces.{get-places_of}

-- a LEB that isn't above another
not_above : (a b : Leb) → is_gt (leb_cmp a b) ≡ false → (a.0 < b.0) ⊎ ((a.0 ≡ b.0) × (a.1 ≤ b.1))
not_above a b h = elim (below_same_or_above a.0 b.0) [
  | inl l ↦ inl l
  | inr r ↦ elim r [
    | inl e ↦ inr (
      e,
      le_from_not_gt a.1 b.1 (subst (λ (o : Ordering). is_gt (ordering_then o (nat_cmp a.1 b.1)) ≡ false)
          (sym (nat_cmp_is a.0 b.0 Equal e)) h),
    )
    | inr g ↦ (let k : is_gt (ordering_then Greater (nat_cmp a.1 b.1))
        ≡ false = subst (λ (o : Ordering). is_gt (ordering_then o (nat_cmp a.1 b.1)) ≡ false)
        (sym (nat_cmp_is a.0 b.0 Greater g)) h in absurd (cc))
  ]
]

number_not_above : (m n : ℕ) → m ≤ n → is_gt (nat_cmp m n) ≡ false
number_not_above m n l = elim (below_same_or_above m n) [
  | inl k ↦ ap is_gt (sym (nat_cmp_is m n Less k))
  | inr r ↦ elim r [ inl e ↦ ap is_gt (sym (nat_cmp_is m n Equal e)) | inr g ↦ absurd (omega arith) ]
]

same_volume : (vol m n : ℕ) → m ≤ n → is_gt (leb_cmp (vol, m) (vol, n)) ≡ false
same_volume vol m n l = ap (λ o. is_gt (ordering_then o (nat_cmp m n))) (sym (nat_cmp_is vol vol Equal refl))
    ∙ number_not_above m n l

module _ (m : BTreeMap Leb Candidate) (vol from : ℕ) where
  -- what lies from the number on
  abbrev pub IsFrom : List (Leb × Candidate) → Type 0
  IsFrom r = IsRangeOf leb_cmp (Included (vol, from)) Unbounded m r

  abbrev place : ℕ → Option ℕ
  place lnum = option_map (λ (held : Candidate). held.peb) (tree.get leb_cmp m (vol, lnum))

  shows : (lnum : ℕ) (o : Option ℕ) → place lnum ≡ o → finite.get (places_of m.entries) (vol, lnum) ≡ o
  shows lnum o e = get-places_of m (vol, lnum) ∙ e

  none_by : (lnum : ℕ) (o : Option Candidate) → tree.get leb_cmp m (vol, lnum) ≡ o
      → ((held : Candidate) → o ≡ Some held → ⊥) → place lnum ≡ None
  none_by lnum None e h = ap (option_map (λ (held : Candidate). held.peb)) e
  none_by lnum (Some held) e h = absurd (h held refl)

  -- an entry of the volume isn't before the first
  first_not_after : (e : Leb × Candidate) (rest : List (Leb × Candidate)) → IsFrom (e ∷ rest) → (lnum : ℕ) → from ≤ lnum
      → (held : Candidate) → tree.get leb_cmp m (vol, lnum) ≡ Some held
      → is_gt (leb_cmp e.0 (vol, lnum)) ≡ false
  first_not_after e rest r lnum l held h = r.2 (vol, lnum) (same_volume vol from lnum l, tt) (rw h refl)

  pub next_some : (e : Leb × Candidate) (rest : List (Leb × Candidate)) → IsFrom (e ∷ rest) → e.0.0 ≡ vol
      → (from ≤ e.0.1) × (finite.get (places_of m.entries) (vol, e.0.1) ≡ Some e.1.peb)
      × ((lnum : ℕ) → from ≤ lnum → lnum < e.0.1 → finite.get (places_of m.entries) (vol, lnum) ≡ None)
  next_some e rest r same =
      let first = not_above (vol, from) e.0 r.1.0.0 in
      let key : e.0 ≡ (vol, e.0.1) = (λ i. (same i, e.0.1)) in
      let here : tree.get leb_cmp m (vol, e.0.1) ≡ Some e.1 =
      subst (λ (k : Leb). tree.get leb_cmp m k ≡ Some e.1) key r.1.1 in (
        elim first [ inl l ↦ absurd (omega arith) | inr s ↦ s.1 ],
        shows e.0.1 (Some e.1.peb) (ap (option_map (λ (held : Candidate). held.peb)) here),
        λ lnum l k. shows lnum None
            (none_by lnum _ refl (λ held h. elim (not_above e.0 (vol, lnum) (first_not_after e rest r lnum l held h))
            [ inl x ↦ absurd (omega arith) | inr x ↦ (let y = x.1 in absurd (omega arith)) ])),
      )

  pub next_other : (e : Leb × Candidate) (rest : List (Leb × Candidate)) → IsFrom (e ∷ rest) → e.0.0 ≢ vol → (lnum : ℕ)
      → from ≤ lnum → finite.get (places_of m.entries) (vol, lnum) ≡ None
  next_other e rest r differs lnum l = shows lnum None (none_by lnum _ refl (λ held h.
      elim (not_above (vol, from) e.0 r.1.0.0) [
        | inr s ↦ differs (sym s.0)
        | inl s ↦ elim (not_above e.0 (vol, lnum) (first_not_after e rest r lnum l held h))
            [ inl x ↦ absurd (omega arith) | inr x ↦ differs x.0 ]
      ]))

  pub next_none : IsFrom [] → (lnum : ℕ) → from ≤ lnum → finite.get (places_of m.entries) (vol, lnum) ≡ None
  next_none r lnum l = shows lnum None
      (ap (option_map (λ (held : Candidate). held.peb)) (r.5 refl (vol, lnum) (same_volume vol from lnum l, tt)))
