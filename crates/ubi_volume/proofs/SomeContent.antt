-- Each volume of eraseblocks that aren't refused reads something.
use Rattle.ubi_volume.proofs.Prelude.{◌≡◌, ℕ, zero, suc, ◌+◌, ◌<◌, ◌≤◌, ◌⊎◌, inl, inr, false, List, [], ◌++◌, length, take, refl, ap, subst, arith, length-take, IsSome, None, Option, Some, FinMap, nat_cmp, cases_eq, length-replicate, same_Some, crc_of, blank, is_blank, Sizes, leb_size, usable, VolumeRecord, VidHeader, VolKind, within_or_past, NoFault, block, leb, Leb, NoMember, Wins, member, named_in, false_or_true, winner_or_none, least_or, Records, NoMismatch, AreGatheredLebs, AreRead, ContentIs, PieceIs, UsedIs, used_in, LebReads, piece, Content}
use Rattle.std.specs.FinMap as finite
use Rattle.ubi_media.specs.declared.vid.VolKind.TheVariants as kind
use Rattle.ubi_volume.specs.declared.content.Content.TheVariants as content
use Rattle.ubi_volume.proofs.Alike.{short_piece}
use Rattle.ubi_volume.proofs.Blanks.{blank_text, other_text}
use Rattle.ubi_volume.proofs.Dynamic.{dynamic_is, gathered_blank, gathered_none, gathered_text}
use Rattle.ubi_volume.proofs.Static.{damaged_behind, damaged_is, damaged_large, damaged_piece, piece_checked, piece_unchecked, read_more, read_none, static_is}
use Rattle.ubi_volume.proofs.Winners.{has_header}

-- every LEB is as large as the geometry says
abbrev pub AreLebs : Sizes → List (List ℕ) → Type 0
AreLebs s bs = (p : ℕ) → p < length bs → length (leb s (block bs p)) ≡ leb_size s

module _ (s : Sizes) (bs : List (List ℕ)) (vol : ℕ) (r : VolumeRecord) where
  -- one LEB reads something
  some_leb : AreLebs s bs → (lnum : ℕ) → (text : List ℕ) × LebReads s bs vol r lnum text × (length text ≡ usable s r)
  some_leb whole lnum = elim (winner_or_none s bs (vol, lnum)) [
    | inl none ↦ (blank (usable s r), inr (none, refl), length-replicate (usable s r) 255)
    | inr w ↦
        let bytes = leb s (block bs w.0) in
        let size = whole w.0 w.1.member.inside in (
          take (usable s r) bytes,
          inl (w.0, w.1, refl),
          omega (arith, length-take (usable s r) bytes, size),
        )
  ]

  -- and the LEBs below n
  one_leb : (n : ℕ) (lebs : FinMap nat_cmp (List ℕ)) → AreGatheredLebs s bs vol r n lebs → (text : List ℕ)
      → LebReads s bs vol r n text → length text ≡ usable s r
      → (more : FinMap nat_cmp (List ℕ)) × AreGatheredLebs s bs vol r (n + 1) more
  one_leb n lebs h text reads long = elim (false_or_true (is_blank text)) [
    | inl e ↦ (
      lebs,
      gathered_blank s bs vol r n lebs h
          (subst (LebReads s bs vol r n) (blank_text text (usable s r) e long) reads),
    )
    | inr e ↦ (
      finite.insert lebs n text,
      gathered_text s bs vol r n lebs text h reads long (other_text text (usable s r) e),
    )
  ]

  some_lebs : AreLebs s bs → (n : ℕ) → (lebs : FinMap nat_cmp (List ℕ)) × AreGatheredLebs s bs vol r n lebs
  some_lebs whole zero = (finite.empty, gathered_none s bs vol r)
  some_lebs whole (suc n) =
      let old = some_lebs whole n in
      let here = some_leb whole n in
      let more = one_leb n old.0 old.1 here.0 here.1 here.2 in
      let next : n + 1 ≡ suc n = omega arith in
      (more.0, subst (λ (k : ℕ). AreGatheredLebs s bs vol r k more.0) next more.1)

module _ (s : Sizes) (bs : List (List ℕ)) (vol : ℕ) where
  -- a volume has a winner at a LEB or behind it, or it has none there
  abbrev Names : ℕ → Option Leb → Type 0
  Names from o = (lnum : ℕ) × (from ≤ lnum) × (o ≡ Some (vol, lnum))

  names_or_not : (from : ℕ) (o : Option Leb) → Names from o ⊎ (Names from o → ⊥)
  names_or_not from None = inr (λ k. (let e = k.2 in cc))
  names_or_not from (Some x) = elim (cases_eq x.0 vol) [
    | inr other ↦ inr (λ k. other (ap (λ (y : Leb). y.0) (same_Some x (vol, k.0) k.2)))
    | inl e ↦ elim (within_or_past from x.1) [
      | inl l ↦ inl (x.1, l, ap (λ (v : ℕ). Some (v, x.1)) e)
      | inr less ↦ inr (λ k. (let same : x.1 ≡ k.0 = ap (λ (y : Leb). y.1) (same_Some x (vol, k.0) k.2) in
          let l = k.1 in omega arith))
    ]
  ]

  some_winner : (from p lnum : ℕ) → p < length bs → from ≤ lnum → named_in s (block bs p) ≡ Some (vol, lnum)
      → (l q : ℕ) × (from ≤ l) × Wins s bs (vol, l) q
  some_winner from p lnum inside l e = elim (winner_or_none s bs (vol, lnum)) [
    | inl none ↦ absurd (none p (record { inside = inside; named = e }))
    | inr w ↦ (lnum, w.0, l, w.1)
  ]

  winner_behind : (from : ℕ) → ((lnum p : ℕ) × (from ≤ lnum) × Wins s bs (vol, lnum) p)
      ⊎ ((lnum : ℕ) → from ≤ lnum → NoMember s bs (vol, lnum))
  winner_behind from =
      elim (least_or (λ p. Names from (named_in s (block bs p))) (λ p. Names from (named_in s (block bs p))
      → ⊥) (length bs) (λ p l. names_or_not from (named_in s (block bs p)))) [
        | inl f ↦ inl (some_winner from f.0 f.2.0 f.1 f.2.1 f.2.2)
        | inr none ↦ inr (λ lnum l p m. none p m.inside (lnum, l, m.named))
      ]

  -- how many LEBs a static volume uses
  some_used : (used : ℕ) × UsedIs s bs vol used
  some_used = elim (winner_behind 0) [
    | inl w ↦ (used_in s bs w.1, inr (w.0, w.1, w.3, refl))
    | inr none ↦ (0, inl ((λ l. none l (omega arith)), refl))
  ]

module _ (s : Sizes) (bs : List (List ℕ)) (clean : NoFault s bs) (vol used : ℕ) where
  -- the piece of a LEB
  piece_by_header : (lnum p : ℕ) → Wins s bs (vol, lnum) p → (o : Option VidHeader) → member s (block bs p) ≡ o
      → IsSome o → (text : Option (List ℕ)) × PieceIs s bs vol used lnum text
  piece_by_header lnum p w None e some = absurd (cc)
  piece_by_header lnum p w (Some h) e some =
      let text = take h.data_size (leb s (block bs p)) in
      elim (cases_eq h.used_ebs used) [
        | inr other ↦ (None, piece_unchecked s bs clean vol used lnum p h text w e refl (λ k. other k.0))
        | inl u ↦ elim (cases_eq (crc_of text) h.data_crc) [
          | inr other ↦ (None, piece_unchecked s bs clean vol used lnum p h text w e refl (λ k. other k.1))
          | inl right ↦ (Some text, piece_checked s bs clean vol used lnum p h text w e refl u right)
        ]
      ]

  some_piece : (lnum : ℕ) → (text : Option (List ℕ)) × PieceIs s bs vol used lnum text
  some_piece lnum = elim (winner_or_none s bs (vol, lnum)) [
    | inl none ↦ (None, λ p w k. none p w.member)
    | inr w ↦ piece_by_header lnum w.0 w.1 (member s (block bs w.0)) refl (has_header s bs (vol, lnum) w.0 w.1.member)
  ]

  -- the first n pieces, or one that isn't there
  abbrev ReadOr : ℕ → Type 0
  ReadOr n = ((text : List ℕ) × AreRead s bs vol used n text)
      ⊎ ((lnum : ℕ) × (lnum < n) × PieceIs s bs vol used lnum None)

  one_piece : (n : ℕ) (text : List ℕ) → AreRead s bs vol used n text → (o : Option (List ℕ)) → PieceIs s bs vol used n o
      → ReadOr (suc n)
  one_piece n text h None k = inr (n, omega arith, k)
  one_piece n text h (Some more) k =
      let next : n + 1 ≡ suc n = omega arith in
      inl (
        text ++ more,
        subst (λ (m : ℕ). AreRead s bs vol used m (text ++ more)) next
            (read_more s bs vol used n text more h k),
      )

  some_read : (n : ℕ) → ReadOr n
  some_read zero = inl ([], read_none s bs vol used)
  some_read (suc n) = elim (some_read n) [
    | inl t ↦ (let here = some_piece n in one_piece n t.0 t.1 here.0 here.1)
    | inr bad ↦ (let l = bad.1 in inr (bad.0, omega arith, bad.2))
  ]

module _ (s : Sizes) (bs : List (List ℕ)) (clean : NoFault s bs) (vol : ℕ) (r : VolumeRecord) where
  -- what a static volume reads
  some_static : r.marker ≡ false → r.kind ≡ kind.Static
      → ((lnum p : ℕ) → Wins s bs (vol, lnum) p → length (piece s bs p) ≤ usable s r)
      → (c : Content) × ContentIs s bs vol r c
  some_static unmarked static short =
      let u = some_used s bs vol in
      elim (within_or_past u.0 r.reserved) [
        | inr large ↦ (
          content.Damaged,
          damaged_is s bs vol r unmarked static
              (damaged_large s bs clean vol u.0 u.1 r large),
        )
        | inl few ↦ elim (winner_behind s bs vol u.0) [
          | inl w ↦ (
            content.Damaged,
            damaged_is s bs vol r unmarked static
                (damaged_behind s bs clean vol u.0 u.1 r w.0 w.1 w.2 w.3),
          )
          | inr none ↦ elim (some_read s bs clean vol u.0 u.0) [
            | inr bad ↦ (
              content.Damaged,
              damaged_is s bs vol r unmarked static
                  (damaged_piece s bs clean vol u.0 u.1 r bad.0 bad.1 bad.2),
            )
            | inl t ↦ (content.Static t.0, static_is s bs vol r unmarked static u.0 t.0 t.1 few none short)
          ]
        ]
      ]

  some_dynamic : AreLebs s bs → r.marker ≡ false → r.kind ≡ kind.Dynamic → (c : Content) × ContentIs s bs vol r c
  some_dynamic whole unmarked dynamic =
      let lebs = some_lebs s bs vol r whole r.reserved in
      (content.Dynamic lebs.0, dynamic_is s bs vol r lebs.0 unmarked dynamic lebs.1)

  module _ (whole : AreLebs s bs) (t : Records) (alike : NoMismatch s bs t)
      (recorded : finite.get t.of vol ≡ Some r) where
    by_kind : (k : VolKind) → r.kind ≡ k → r.marker ≡ false → (c : Content) × ContentIs s bs vol r c
    by_kind kind.Dynamic e unmarked = some_dynamic whole unmarked e
    by_kind kind.Static e unmarked = some_static unmarked e (short_piece s bs t alike vol r recorded unmarked e)

    pub some_content : (c : Content) × ContentIs s bs vol r c
    some_content = elim (false_or_true r.marker) [
      | inl marked ↦ (content.Updating, record { reads = marked; fits = marked; kept = tt })
      | inr unmarked ↦ by_kind r.kind refl unmarked
    ]
