-- Volumes that have no meaning together have one first cause.
use Rattle.ubi_volume.proofs.Prelude.{◌≡◌, ◌<◌, ℕ, inl, inr, refl, sym, ap, ◌∙◌, arith, cases_order, Sizes, rec_fault, IsFirstMade, Items, item, cause_rank, Volume, MeaningCause}
use Rattle.ubi_volume.specs.declared.errors.MeaningCause.TheVariants as cause

module _ (s : Sizes) (items : Items) where
  no_order : (m n : ℕ) → (m < n → ⊥) → (n < m → ⊥) → m ≡ n
  no_order m n a b = elim (cases_order m n) [ inl h ↦ h | inr (inl h) ↦ absurd (a h) | inr (inr h) ↦ absurd (b h) ]

  -- the earlier item of a name is told, and not a later one
  earlier : (i j k : ℕ) → IsFirstMade s items (cause.SameName i j) → IsFirstMade s items (cause.SameName i k) → j < k → ⊥
  earlier i j k p q h =
      let same : p.stands.0 ≡ q.stands.0 = let a = p.stands.2 in let b = q.stands.2 in cc in
      p.first (cause.SameName k j) (inr (refl, q.stands.4)) (
        q.stands.1,
        p.stands.1,
        q.stands.3,
        p.stands.3,
        h,
        p.stands.5 ∙ ap (λ (e : ℕ × Volume). e.1.entry.name) same
            ∙ sym q.stands.5,
      )

  one_by : (c d : MeaningCause) → cause_rank c ≡ cause_rank d → item c ≡ item d → IsFirstMade s items c → IsFirstMade s items d → c ≡ d
  one_by (cause.IdRange i) (cause.IdRange j) r h p q = ap (λ k. cause.IdRange k) h
  one_by (cause.SameId i) (cause.SameId j) r h p q = ap (λ k. cause.SameId k) h
  one_by (cause.Record i f) (cause.Record j g) r h p q =
      let a = p.stands.1 in
      let b = q.stands.1 in
      let same : p.stands.0 ≡ q.stands.0 = cc in
      let e = p.stands.2 in
      let d = q.stands.2 in
      let faults : rec_fault s p.stands.0.1.entry ≡ rec_fault s q.stands.0.1.entry =
      ap (λ (e : ℕ × Volume). rec_fault s e.1.entry) same in cc
  one_by (cause.SameName i j) (cause.SameName k l) r h p q =
      let p' : IsFirstMade s items (cause.SameName k j) = rw (← h) p in
      let same : j ≡ l = no_order j l (earlier k j l p' q) (earlier k l j q p') in cc
  one_by cause.NoSpace cause.NoSpace r h p q = refl
  one_by (cause.ContentRange i) (cause.ContentRange j) r h p q = ap (λ k. cause.ContentRange k) h
  one_by c d r h p q = absurd (omega arith)

  -- at most one cause is the first
  pub one_first : (c d : MeaningCause) → IsFirstMade s items c → IsFirstMade s items d → c ≡ d
  one_first c d p q =
      let ranks : cause_rank c ≡ cause_rank d =
      no_order (cause_rank c) (cause_rank d) (λ h. q.first c (inl h) p.stands) (λ h. p.first d (inl h) q.stands) in
      let places : item c ≡ item d =
      no_order (item c) (item d) (λ h. q.first c (inr (ranks, h)) p.stands)
      (λ h. p.first d (inr (sym ranks, h)) q.stands) in
      one_by c d ranks places p q
