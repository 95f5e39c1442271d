-- One eraseblock is given other bytes: what is then a member, what wins, and that nothing is at fault.
use Rattle.ubi_change.proofs.Prelude.{◌≡◌, ◌≢◌, ℕ, ◌<◌, ◌≤◌, inl, inr, Bool, true, false, List, [], length, set, ap, sym, ◌∙◌, subst, arith, length-set, get_or-set_same, get_or-set_other, Some, None, cases_eq, Sizes, IsClean, IsSound, block, IsMember, Leb, NoMember, Wins, good_at, good_in, named_in, sqnum_at, sqnum_in, seq_of}
use Rattle.ubi_change.proofs.MeaningKept.{KeepsLeb}

module _ (s : Sizes) (bs : List (List ℕ)) (b : ℕ) (x : List ℕ) (inside : b < length bs) where
  pub block_other : (p : ℕ) → p ≢ b → block (set bs b x) p ≡ block bs p
  block_other p e = get_or-set_other bs b p x [] e

  pub block_same : block (set bs b x) b ≡ x
  block_same = get_or-set_same bs b x [] inside

  pub member_kept : (of : Leb) (p : ℕ) → p ≢ b → IsMember s bs of p → IsMember s (set bs b x) of p
  member_kept of p e h = record {
    inside = (let i = h.inside in omega (arith, length-set bs b x));
    named = ap (named_in s) (block_other p e) ∙ h.named;
  }

  pub member_was : (of : Leb) (p : ℕ) → p ≢ b → IsMember s (set bs b x) of p → IsMember s bs of p
  member_was of p e h = record {
    inside = (let i = h.inside in omega (arith, length-set bs b x));
    named = ap (named_in s) (sym (block_other p e)) ∙ h.named;
  }

  pub member_here : (of : Leb) → named_in s x ≡ Some of → IsMember s (set bs b x) of b
  member_here of e = record { inside = omega (arith, length-set bs b x); named = ap (named_in s) block_same ∙ e }

  pub named_here : (of : Leb) → IsMember s (set bs b x) of b → named_in s x ≡ Some of
  named_here of h = ap (named_in s) (sym block_same) ∙ h.named

  pub sqnum_kept : (p : ℕ) → p ≢ b → sqnum_at s (set bs b x) p ≡ sqnum_at s bs p
  sqnum_kept p e = ap (sqnum_in s) (block_other p e)

  pub good_kept : (p : ℕ) → p ≢ b → good_at s (set bs b x) p ≡ good_at s bs p
  good_kept p e = ap (good_in s) (block_other p e)

  sqnum_here : sqnum_at s (set bs b x) b ≡ sqnum_in s x
  sqnum_here = ap (sqnum_in s) block_same

  good_here : good_at s (set bs b x) b ≡ good_in s x
  good_here = ap (good_in s) block_same

  -- what holds of each other member's number and goodness still does
  pub over_set : (P : ℕ → Bool → Type 0) (of : Leb)
      → ((q : ℕ) → q ≢ b → IsMember s bs of q → P (sqnum_at s bs q) (good_at s bs q))
      → (named_in s x ≡ Some of → P (sqnum_in s x) (good_in s x)) → (q : ℕ) → IsMember s (set bs b x) of q
      → P (sqnum_at s (set bs b x) q) (good_at s (set bs b x) q)
  over_set P of old new q h = elim (cases_eq q b) [
    | inl e ↦ subst (λ (k : ℕ). P (sqnum_at s (set bs b x) k) (good_at s (set bs b x) k)) (sym e)
        (subst (λ y. P (sqnum_in s y) (good_in s y)) (sym block_same)
        (new (named_here of (subst (IsMember s (set bs b x) of) e h))))
    | inr e ↦ subst (λ y. P (sqnum_in s y) (good_in s y)) (sym (block_other q e)) (old q e (member_was of q e h))
  ]

  -- a winner that isn't b stays, where b is no better than it
  pub wins_kept : (of : Leb) (w : ℕ) → w ≢ b → Wins s bs of w
      → (named_in s x ≡ Some of → (good_in s x ≡ false) × (sqnum_at s bs w ≤ sqnum_in s x)) → Wins s (set bs b x) of w
  wins_kept of w e h new = record {
    member = member_kept of w e h.member;
    best = elim h.best [
      | inl g ↦ inl (
        good_kept w e ∙ g.0,
        over_set (λ t f. f ≡ true → t ≤ sqnum_at s (set bs b x) w) of
            (λ q _ m y. (let k = g.1 q m y in let k' = sqnum_kept w e in omega arith))
            (λ n y. (let k = (new n).0 in absurd (cc))),
      )
      | inr g ↦ inr (over_set (λ t f. (f ≡ false) × (sqnum_at s (set bs b x) w ≤ t)) of
          (λ q _ m. ((g q m).0, (let k = (g q m).1 in let k' = sqnum_kept w e in omega arith)))
          (λ n. ((new n).0, (let k = (new n).1 in let k' = sqnum_kept w e in omega arith))))
    ];
  }

  -- a good member with the greatest number wins
  pub wins_here : (of : Leb) → named_in s x ≡ Some of → good_in s x ≡ true
      → ((q : ℕ) → q ≢ b → IsMember s bs of q → sqnum_at s bs q ≤ sqnum_in s x) → Wins s (set bs b x) of b
  wins_here of named good top = record {
    member = member_here of named;
    best = inl (
      good_here ∙ good,
      over_set (λ t f. f ≡ true → t ≤ sqnum_at s (set bs b x) b) of
          (λ q e m _. (let k = top q e m in let k' = sqnum_here in omega arith))
          (λ _ _. (let k' = sqnum_here in omega arith)),
    );
  }

  -- no member where there was none but b
  pub none_kept : (of : Leb) → NoMember s bs of → (named_in s x ≡ Some of → ⊥) → NoMember s (set bs b x) of
  none_kept of none new p h = elim (cases_eq p b) [
    | inl e ↦ new (named_here of (subst (IsMember s (set bs b x) of) e h))
    | inr e ↦ none p (member_was of p e h)
  ]

  -- what x says of the image is what the eraseblocks say
  abbrev pub NamesImage : Type 0
  NamesImage = (q : ℕ) → q < length bs → seq_of s x ≢ 0 → seq_of s (block bs q) ≢ 0 → seq_of s x ≡ seq_of s (block bs q)

  -- its sequence number is that of no other member of its LEB
  abbrev pub IsFresh : Type 0
  IsFresh = (of : Leb) → named_in s x ≡ Some of → (q : ℕ) → q ≢ b → IsMember s bs of q → sqnum_at s bs q ≢ sqnum_in s x

  inside_was : (p : ℕ) → p < length (set bs b x) → p < length bs
  inside_was p i = omega (arith, length-set bs b x)

  -- nothing is at fault, where x isn't
  pub clean_kept : IsClean s bs → IsSound s x → NamesImage → IsFresh → IsClean s (set bs b x)
  clean_kept h sound names fresh = record {
    sound = λ p l. elim (cases_eq p b) [
      | inl e ↦ subst (λ (k : ℕ). IsSound s (block (set bs b x) k)) (sym e) (subst (IsSound s) (sym block_same) sound)
      | inr e ↦ subst (IsSound s) (sym (block_other p e)) (h.sound p (inside_was p l))
    ];
    one_image = λ p q i j u v. elim (cases_eq p b) [
      | inl e ↦ elim (cases_eq q b) [
        | inl f ↦ ap (λ (k : ℕ). seq_of s (block (set bs b x) k)) (e ∙ sym f)
        | inr f ↦ (let here = seq_here p e in let there = ap (seq_of s) (block_other q f) in
            here ∙ names q (inside_was q j) (λ z. u (here ∙ z)) (λ z. v (there ∙ z)) ∙ sym there)
      ]
      | inr e ↦ elim (cases_eq q b) [
        | inl f ↦ (let here = seq_here q f in let there = ap (seq_of s) (block_other p e) in
            there ∙ sym (names p (inside_was p i) (λ z. v (here ∙ z)) (λ z. u (there ∙ z))) ∙ sym here)
        | inr f ↦ (let a = ap (seq_of s) (block_other p e) in let c = ap (seq_of s) (block_other q f) in
            a ∙ h.one_image p q (inside_was p i) (inside_was q j) (λ z. u (a ∙ z)) (λ z. v (c ∙ z)) ∙ sym c)
      ]
    ];
    apart = λ of p q a c e. elim (cases_eq p b) [
      | inl k ↦ elim (cases_eq q b) [
        | inl t ↦ k ∙ sym t
        | inr t ↦ absurd (fresh of (named_here of (subst (IsMember s (set bs b x) of) k a)) q t (member_was of q t c)
            (sym (sqnum_kept q t) ∙ sym e ∙ ap (sqnum_at s (set bs b x)) k ∙ sqnum_here))
      ]
      | inr k ↦ elim (cases_eq q b) [
        | inl t ↦ absurd (fresh of (named_here of (subst (IsMember s (set bs b x) of) t c)) p k (member_was of p k a)
            (sym (sqnum_kept p k) ∙ e ∙ ap (sqnum_at s (set bs b x)) t ∙ sqnum_here))
        | inr t ↦ h.apart of p q (member_was of p k a) (member_was of q t c) (sym (sqnum_kept p k) ∙ e ∙ sqnum_kept q t)
      ]
    ];
  } where
    seq_here : (p : ℕ) → p ≡ b → seq_of s (block (set bs b x) p) ≡ seq_of s x
    seq_here p e = ap (λ (k : ℕ). seq_of s (block (set bs b x) k)) e ∙ ap (seq_of s) block_same

  -- which LEBs keep their winners
  -- where x is no member, each LEB that b doesn't win
  pub keeps_vacated : named_in s x ≡ None → (of : Leb) → (Wins s bs of b → ⊥) → KeepsLeb s bs (set bs b x) of
  keeps_vacated out of loses =
      let gone : named_in s x ≡ Some of → ⊥ = λ e. (let k = out in absurd (cc)) in
      record {
        winner = λ p w. (let e : p ≢ b = λ e. loses (subst (Wins s bs of) e w) in
            (wins_kept of p e w (λ n. absurd (gone n)), block_other p e));
        none = λ none. none_kept of none gone;
      }

  -- where x is a member of another LEB, each LEB that b doesn't win
  pub keeps_others : (leb of : Leb) → named_in s x ≡ Some leb → of ≢ leb → (Wins s bs of b → ⊥)
      → KeepsLeb s bs (set bs b x) of
  keeps_others leb of named other loses =
      let gone : named_in s x ≡ Some of → ⊥ = λ e. (let k = named in other (cc)) in
      record {
        winner = λ p w. (let e : p ≢ b = λ e. loses (subst (Wins s bs of) e w) in
            (wins_kept of p e w (λ n. absurd (gone n)), block_other p e));
        none = λ none. none_kept of none gone;
      }

  -- where x is a bad member with the greatest number, the LEB itself too, if it has a winner
  pub keeps_bad : (leb : Leb) (w : ℕ) → Wins s bs leb w → good_in s x ≡ false
      → ((q : ℕ) → IsMember s bs leb q → sqnum_at s bs q ≤ sqnum_in s x) → (Wins s bs leb b → ⊥)
      → KeepsLeb s bs (set bs b x) leb
  keeps_bad leb w wins bad top loses = record {
    winner = λ p k. (let e : p ≢ b = λ e. loses (subst (Wins s bs leb) e k) in
        (wins_kept leb p e k (λ n. (bad, top p k.member)), block_other p e));
    none = λ none. absurd (none w wins.member);
  }
