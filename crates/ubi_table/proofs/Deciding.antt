-- Which copy decides, if those before it can't.
use Rattle.ubi_table.proofs.Prelude.{◌≡◌, ℕ, ◌+◌, ◌<◌, inl, inr, true, List, refl, ap, sym, ◌∙◌, subst, arith, MatchOption, None, Some, cases_order, Sizes, Refusal, NoMember, Wins, layout, Found, IsScan, IsCopyFault, IsCopyTable, Records, CopyIs, Decides, IsTable, IsTableFault, can_decide, CopyRead}
use Rattle.std.specs.FinMap as finite
use Rattle.ubi_media.specs.declared.refusal.Refusal.TheVariants as refusal
use Rattle.ubi_table.specs.declared.copy.CopyRead.TheVariants as copy
use Rattle.ubi_table.proofs.OneTable.{copy_unique}

module _ (s : Sizes) (bs : List (List ℕ)) where
  -- no copy below c can decide
  pub record NoneDecides (c : ℕ) : Type 0 where
    pub each : (d : ℕ) → d < c → IsCopyTable s bs d None

  pub none_more : (c : ℕ) → NoneDecides c → IsCopyTable s bs c None → NoneDecides (c + 1)
  none_more c h here = record {
    each = λ d l. elim (cases_order d c) [
      | inl e ↦ subst (λ n. IsCopyTable s bs n None) (sym e) here
      | inr o ↦ elim o [ inl less ↦ h.each d less | inr more ↦ absurd (omega arith) ]
    ];
  }

  -- so the copy c decides, if it can
  decides : (c : ℕ) (what : CopyRead) → c < 2 → NoneDecides c → CopyIs s bs c what → can_decide what ≡ true
      → Decides s bs c what
  decides c what l h is can = record {
    is = is;
    can = can;
    before = elim (cases_order c 0) [
      | inl e ↦ inl e
      | inr o ↦ elim o [
        | inl less ↦ absurd (omega arith)
        | inr more ↦ (let zero = h.each 0 more in inr (omega arith, zero.0, zero.1, zero.2))
      ]
    ];
  }

  pub table_chosen : (c : ℕ) (t : Records) → c < 2 → NoneDecides c → IsCopyTable s bs c (Some t) → IsTable s bs t
  table_chosen c t l h k = inr (c, decides c (copy.Good t) l h k.0 refl, k.1)

  pub fault_chosen : (c : ℕ) (cause : Refusal) → c < 2 → NoneDecides c → IsCopyFault s bs c cause
      → IsTableFault s bs cause
  fault_chosen c (refusal.Record p slot f) l h k = (c, decides c (copy.Faulty slot f) l h k.0 refl, k.1)
  fault_chosen c (refusal.SameName p i j) l h k = (c, decides c (copy.Twice i j) l h k.0 refl, k.1)
  fault_chosen c refusal.NoSpace l h k = (c, k.0, decides c (copy.Good k.0) l h k.1 refl, k.2)
  fault_chosen c _ l h k = absurd k

  -- where neither can, both are corrupt
  pub both_corrupt : (found : Found) (next : ℕ × ℕ) → IsScan s bs found → NoneDecides 2
      → finite.get found.winners (layout, next.0) ≡ Some next.1
      → IsTableFault s bs refusal.BothCorrupt
  both_corrupt found next scan h e =
      let w : Wins s bs (layout, next.0) next.1 =
      subst (λ o. MatchOption o (NoMember s bs (layout, next.0)) (Wins s bs (layout, next.0))) e
      (scan.winners (layout, next.0)) in (
        (next.0, next.1, w.member),
        λ c what l is. (let k = h.each c l in
            ap can_decide (copy_unique s bs scan.clean c what k.0 is k.1) ∙ k.2),
      )

  -- where there is none, the layout volume has no member
  pub no_copies : (found : Found) → IsScan s bs found → ((l : ℕ) → finite.get found.winners (layout, l) ≡ None)
      → (c : ℕ) → NoMember s bs (layout, c)
  no_copies found scan none c = subst (λ o. MatchOption o (NoMember s bs (layout, c)) (Wins s bs (layout, c))) (none c)
      (scan.winners (layout, c))
