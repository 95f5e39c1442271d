-- If no eraseblock has a fault, an image has a table, or one of the faults of tables.
use Rattle.ubi_table.proofs.Prelude.{◌≡◌, ℕ, ◌<◌, ◌≤◌, ◌⊎◌, inl, inr, false, List, [], length, refl, ap, sym, ◌∙◌, subst, arith, None, Option, Some, option_map, get_or_default, same_Some, Sizes, EcRead, Refusal, VidHeader, within_or_past, NoFault, block, ec, leb, Leb, NoMember, Wins, layout, leb_of, member, false_or_true, winner_or_none, least_or, Records, no_records, space, CopyIs, copy_of, AllBlank, Decides, IsTable, IsTableFault, can_decide, CopyRead}
use Rattle.ubi_media.specs.declared.ec.EcRead.TheVariants as ec_read
use Rattle.ubi_media.specs.declared.refusal.Refusal.TheVariants as refusal
use Rattle.ubi_table.specs.declared.copy.CopyRead.TheVariants as copy
use Rattle.ubi_table.proofs.OneTable.{copy_held, copy_unique}

first_or_next : (d : ℕ) → d < 2 → (d ≡ 0) ⊎ (d ≡ 1)
first_or_next d h = grind arith

below_or_from : (c : ℕ) → (c ≡ 0) ⊎ (c ≡ 1) ⊎ (2 ≤ c)
below_or_from c = grind arith

blank_or_not : (e : EcRead) → (e ≡ ec_read.Blank → ⊥) ⊎ (e ≡ ec_read.Blank)
blank_or_not ec_read.Blank = inr refl
blank_or_not ec_read.Corrupt = inl (λ e. cc)
blank_or_not (ec_read.Fault f) = inl (λ e. cc)
blank_or_not (ec_read.Valid h) = inl (λ e. cc)

module _ (s : Sizes) (bs : List (List ℕ)) where
  -- every erase-counter header is Blank, or some isn't
  blank_or_used : AllBlank s bs ⊎ (AllBlank s bs → ⊥)
  blank_or_used = elim (least_or (λ p. ec s (block bs p) ≡ ec_read.Blank
      → ⊥) (λ p. ec s (block bs p) ≡ ec_read.Blank) (length bs) (λ p l. blank_or_not (ec s (block bs p)))) [
        | inl f ↦ inr (λ all. f.2 (all f.0 [] f.1))
        | inr all ↦ inl (λ p d i. ap (ec s) (get_or_default bs p d [] i) ∙ all p i)
      ]

  -- a table, or a fault
  abbrev Outcome : Type 0
  Outcome = ((t : Records) × IsTable s bs t) ⊎ ((c : Refusal) × IsTableFault s bs c)

  -- what a copy that decides gives
  by_copy : (c : ℕ) (what : CopyRead) → Decides s bs c what → Outcome
  by_copy c copy.Absent d = let e = d.can in absurd (cc)
  by_copy c copy.Corrupt d = let e = d.can in absurd (cc)
  by_copy c (copy.Faulty slot f) d = inr (refusal.Record d.is.0 slot f, (c, d, d.is.1))
  by_copy c (copy.Twice i j) d = inr (refusal.SameName d.is.0 i j, (c, d, d.is.1))
  by_copy c (copy.Good t) d = elim (within_or_past (space t) s.pebs) [
    | inl l ↦ inl (t, inr (c, d, l))
    | inr l ↦ inr (refusal.NoSpace, (c, t, d, l))
  ]

  -- what a copy is
  copy_found : (c : ℕ) → (what : CopyRead) × CopyIs s bs c what
  copy_found c = elim (winner_or_none s bs (layout, c)) [
    | inl none ↦ (copy.Absent, none)
    | inr w ↦ (copy_of s (leb s (block bs w.0)), copy_held s bs c w.0 _ w.1 refl)
  ]

module _ (s : Sizes) (bs : List (List ℕ)) (clean : NoFault s bs) where
  -- a member of the layout volume is one of its two LEBs
  no_further : (c : ℕ) → 2 ≤ c → NoMember s bs (layout, c)
  no_further c far p m = by_header (member s (block bs p)) refl m.named
    where
      by_header : (o : Option VidHeader) → member s (block bs p) ≡ o → option_map leb_of o ≡ Some (layout, c) → ⊥
      by_header None e n = cc
      by_header (Some h) e n =
          let of : leb_of h ≡ (layout, c) = same_Some (leb_of h) (layout, c) n in
          let number : h.lnum ≡ c = ap (λ (x : Leb). x.1) of in
          clean p (refusal.Layout p) m.inside (refl, h, e, (ap (λ (x : Leb). x.0) of, inl (omega arith)))

  no_copies : NoMember s bs (layout, 0) → NoMember s bs (layout, 1) → (c : ℕ) → NoMember s bs (layout, c)
  no_copies a b c = elim (below_or_from c) [
    | inl e ↦ subst (λ (n : ℕ). NoMember s bs (layout, n)) (sym e) a
    | inr o ↦ elim o [ inl e ↦ subst (λ (n : ℕ). NoMember s bs (layout, n)) (sym e) b | inr far ↦ no_further c far ]
  ]

  -- neither copy can decide
  module _ (used : AllBlank s bs → ⊥) (x y : CopyRead) (a : CopyIs s bs 0 x) (b : CopyIs s bs 1 y)
      (first : can_decide x ≡ false) (next : can_decide y ≡ false) where
    none_decides : (c : ℕ) (what : CopyRead) → c < 2 → CopyIs s bs c what → can_decide what ≡ false
    none_decides c what l is = elim (first_or_next c l) [
      | inl e ↦ ap can_decide (copy_unique s bs clean 0 what x (subst (λ (n : ℕ). CopyIs s bs n what) e is) a) ∙ first
      | inr e ↦ ap can_decide (copy_unique s bs clean 1 what y (subst (λ (n : ℕ). CopyIs s bs n what) e is) b) ∙ next
    ]

    both_corrupt : (c p : ℕ) → Wins s bs (layout, c) p → Outcome s bs
    both_corrupt c p w = inr (refusal.BothCorrupt, ((c, p, w.member), none_decides))

    neither : Outcome s bs
    neither = elim (winner_or_none s bs (layout, 0)) [
      | inr w ↦ both_corrupt 0 w.0 w.1
      | inl n ↦ elim (winner_or_none s bs (layout, 1)) [
        | inr w ↦ both_corrupt 1 w.0 w.1
        | inl m ↦ inr (refusal.NoTable, (used, no_copies n m))
      ]
    ]

  by_copies : (AllBlank s bs → ⊥) → (x y : CopyRead) → CopyIs s bs 0 x → CopyIs s bs 1 y → Outcome s bs
  by_copies used x y a b = elim (false_or_true (can_decide x)) [
    | inl can ↦ by_copy s bs 0 x (record { is = a; can = can; before = inl refl })
    | inr first ↦ elim (false_or_true (can_decide y)) [
      | inl can ↦ by_copy s bs 1 y (record { is = b; can = can; before = inr (refl, x, a, first) })
      | inr next ↦ neither used x y a b first next
    ]
  ]

  pub table_or_refused : ((t : Records) × IsTable s bs t) ⊎ ((c : Refusal) × IsTableFault s bs c)
  table_or_refused = elim (blank_or_used s bs) [
    | inl all ↦ inl (no_records s, inl (all, refl))
    | inr used ↦ (let x = copy_found s bs 0 in let y = copy_found s bs 1 in by_copies used x.0 y.0 x.1 y.1)
  ]
