-- Some eraseblock is unlike the record of its volume, or none is.
use Rattle.ubi_volume.proofs.Prelude.{◌≡◌, ◌≢◌, ℕ, ◌⊎◌, inl, inr, List, length, refl, sym, ◌∙◌, subst, arith, None, Option, Some, cases_lt, cases_eq, Sizes, data_pad, VolumeRecord, Refusal, VidHeader, VolKind, NoFault, block, Leb, Wins, leb_of, member, false_or_true, Wins-unique, winner_or_none, least_or, kept_header, Records, IsMismatched, IsUnlike, IsVolumeFault, IsWithin, NoMismatch, Disagrees}
use Rattle.std.specs.FinMap as finite
use Rattle.ubi_media.specs.declared.refusal.Refusal.TheVariants as refusal
use Rattle.ubi_media.specs.declared.vid.VolKind.TheVariants as kind
use Rattle.ubi_volume.proofs.Mismatches.{mismatch_by_header, no_record_no_mismatch}
use Rattle.ubi_volume.proofs.Winners.{named_by, no_some}

kind_or_other : (a b : VolKind) → (a ≡ b) ⊎ (a ≢ b)
kind_or_other kind.Dynamic kind.Dynamic = inl refl
kind_or_other kind.Dynamic kind.Static = inr (λ e. cc)
kind_or_other kind.Static kind.Dynamic = inr (λ e. cc)
kind_or_other kind.Static kind.Static = inl refl

-- of a header and a record
within_or_not : (r : VolumeRecord) (lnum : ℕ) → IsWithin r lnum ⊎ (IsWithin r lnum → ⊥)
within_or_not r lnum = elim (cases_lt lnum r.reserved) [
  | inl l ↦ inl (λ e. l)
  | inr out ↦ elim (kind_or_other r.kind kind.Dynamic) [
    | inl e ↦ inr (λ within. (let l = within e in omega arith))
    | inr other ↦ inl (λ e. absurd (other e))
  ]
]

unlike_or_not : (s : Sizes) (r : VolumeRecord) (h : VidHeader) → IsUnlike s r h ⊎ (IsUnlike s r h → ⊥)
unlike_or_not s r h = elim (kind_or_other h.kind r.kind) [
  | inr other ↦ inl (inl other)
  | inl e ↦ elim (cases_eq h.data_pad (data_pad s r)) [
    | inr other ↦ inl (inr other)
    | inl f ↦ inr (λ unlike. elim unlike [ inl n ↦ n e | inr n ↦ n f ])
  ]
]

disagrees_or_not : (s : Sizes) (r : VolumeRecord) (h : VidHeader) → Disagrees s r (kept_header h) ⊎ (Disagrees s r (kept_header h) → ⊥)
disagrees_or_not s r h = elim (false_or_true r.marker) [
  | inl marked ↦ inr (λ d. (let e = d.0 in cc))
  | inr unmarked ↦ elim (within_or_not r h.lnum) [
    | inr out ↦ inr (λ d. out d.1)
    | inl within ↦ elim (unlike_or_not s r h) [
      | inl unlike ↦ inl (unmarked, within, unlike)
      | inr like ↦ inr (λ d. like d.2)
    ]
  ]
]

module _ (s : Sizes) (bs : List (List ℕ)) (t : Records) (clean : NoFault s bs) where
  abbrev OrNot : ℕ → Type 0
  OrNot p = IsMismatched s bs t p ⊎ (IsMismatched s bs t p → ⊥)

  -- by the record of a winner's volume
  by_record : (p : ℕ) (h : VidHeader) → member s (block bs p) ≡ Some h → Wins s bs (leb_of h) p
      → (o : Option VolumeRecord) → finite.get t.of h.vol_id ≡ o → OrNot p
  by_record p h e w None none = inr (no_record_no_mismatch s bs t p h e w none)
  by_record p h e w (Some r) got = elim (disagrees_or_not s r h) [
    | inl d ↦ inl ((mismatch_by_header s bs t p h e w r got).0 d)
    | inr not ↦ inr (λ m. not ((mismatch_by_header s bs t p h e w r got).1 m))
  ]

  -- by the header of an eraseblock
  by_header : (p : ℕ) → (o : Option VidHeader) → member s (block bs p) ≡ o → OrNot p
  by_header p None none = inr (λ m. no_some m.1 (sym none ∙ m.4))
  by_header p (Some h) e = elim (winner_or_none s bs (leb_of h)) [
    | inl none ↦ inr (λ m. none p (moved m).member)
    | inr w ↦ elim (cases_eq p w.0) [
      | inl same ↦ by_record p h e (subst (Wins s bs (leb_of h)) (sym same) w.1) (finite.get t.of h.vol_id) refl
      | inr apart ↦ inr (λ m. apart (Wins-unique s bs (leb_of h) p w.0 clean (moved m) w.1))
    ]
  ]
    where
      moved : IsMismatched s bs t p → Wins s bs (leb_of h) p
      moved m = subst (λ (of : Leb). Wins s bs of p) (named_by s bs (m.2.vol, m.2.lnum) p h m.2.wins.member e) m.2.wins

  pub mismatch_or_none : NoMismatch s bs t ⊎ ((c : Refusal) × IsVolumeFault s bs t c)
  mismatch_or_none = elim (least_or (IsMismatched s bs t) (λ p. IsMismatched s bs t p
      → ⊥) (length bs) (λ p l. by_header p (member s (block bs p)) refl)) [
        | inl f ↦ inr (refusal.Mismatch f.0, (f.2, f.3))
        | inr none ↦ inl (λ p m. none p m.2.wins.member.inside m)
      ]
