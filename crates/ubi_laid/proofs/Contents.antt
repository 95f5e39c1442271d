-- What volumes read that are laid out, wherever each of their LEBs lies.
use Rattle.ubi_laid.proofs.Prelude.{◌≡◌, ℕ, zero, suc, ◌+◌, ◌-◌, ◌*◌, ◌<◌, ◌≤◌, inl, inr, List, [], ◌∷◌, length, take, refl, sym, ap, ◌∙◌, subst, arith, take-replicate, take_at, FinMap, range_with_len, option_map_or, nat_cmp, IfSome, None, Option, Some, unwrap_or, usable_some, check_from, crc_of, remainder, blank, IsGeometry, Sizes, data_pad, usable, VolumeRecord, VidHeader, NoFault, block, leb, Leb, NoMember, leb_of, pieces_few, share_more, share_none, shares_all, damaged_piece, piece_checked, piece_unchecked, read_more, read_none, static_reads, LebReads, VolumeReads, Fits, VolumeMap, pieces, share, AreRead, PieceIs, UsedIs, Content, Volume, Laid, laid_blocks, damaged_block, dynamic_block, static_part, volume_blocks, AreLaidIn, IsLaidAt, LaidRead}
use Rattle.std.specs.FinMap as finite
use Rattle.ubi_volume.specs.declared.content.Content.TheVariants as content
use Rattle.ubi_laid.proofs.AllVolumes.{own_only, own_there, volume_at}
use Rattle.ubi_laid.proofs.Lists.{Holds, all_at, all_from, entry_held, held_entry, holds_map, holds_range, map_holds, range_holds}

-- a byte 0xFF has another check than 0
check_blank : crc_of (255 ∷ []) ≡ 0x00FFFFFF
unfolding check_from remainder
check_blank = refl

-- each LEB of a volume lies in some eraseblock, and no other LEB of it has a member
record LiesIn (s : Sizes) (bs : List (List ℕ)) (vol : ℕ) (own : List Laid) : Type 0 where
  place : (l : Laid) → Holds own l → (p : ℕ) × IsLaidAt s bs l p
  no_other : (lnum : ℕ) → ((l : Laid) → Holds own l → l.header.lnum ≡ lnum → ⊥) → NoMember s bs (vol, lnum)

module _ (s : Sizes) (g : IsGeometry s) (bs : List (List ℕ)) (clean : NoFault s bs) (vol : ℕ) (r : VolumeRecord) where
  -- a dynamic volume
  module _ (lebs : FinMap nat_cmp (List ℕ)) (at : LiesIn s bs vol (volume_blocks s vol r (content.Dynamic lebs))) where
    unheld : (lnum : ℕ) → finite.get lebs lnum ≡ None → NoMember s bs (vol, lnum)
    unheld lnum none = at.no_other lnum (λ l h same.
        let e = map_holds (dynamic_block (data_pad s r) vol) (finite.entries lebs) l h in
        let number : e.0.0 ≡ lnum = ap (λ (l : Laid). l.header.lnum) e.2 ∙ same in
        let held : finite.get lebs lnum ≡ Some e.0.1 = ap (finite.get lebs) (sym number) ∙ held_entry lebs e.0 e.1 in
        cc)

    held : (lnum : ℕ) (text : List ℕ) → finite.get lebs lnum ≡ Some text → length text ≡ usable s r
        → LebReads s bs vol r lnum text
    held lnum text some size =
        let l : Laid = dynamic_block (data_pad s r) vol (lnum, text) in
        let here = at.place l (holds_map (dynamic_block (data_pad s r) vol) (finite.entries lebs) (lnum, text)
        (entry_held lebs lnum text some)) in
        inl (
          here.0,
          here.1.wins,
          sym (ap (take (usable s r)) here.1.reads
              ∙ take_at text (blank (s.peb_size - (s.data_offset + length text))) (usable s r) size),
        )

    leb_by : (lnum : ℕ) (o : Option (List ℕ)) → finite.get lebs lnum ≡ o
        → IfSome o (λ text. (lnum < r.reserved) × (length text ≡ usable s r))
        → LebReads s bs vol r lnum (unwrap_or o (blank (usable s r)))
    leb_by lnum None e h = inr (unheld lnum e, refl)
    leb_by lnum (Some text) e h = held lnum text e h.1

    dynamic_reads : Fits s r (content.Dynamic lebs) → VolumeReads s bs vol r (content.Dynamic lebs)
    dynamic_reads fits = (fits.0, fits.1, λ lnum inside. leb_by lnum (finite.get lebs lnum) refl (fits.2 lnum))

  -- a static volume
  module _ (text : List ℕ) (size_some : 1 ≤ usable s r)
      (at : LiesIn s bs vol (volume_blocks s vol r (content.Static text))) where
    abbrev used : ℕ
    used = pieces (usable s r) (length text)

    abbrev part : ℕ → Laid
    part lnum = static_part (data_pad s r) (usable s r) vol text lnum

    part_held : (lnum : ℕ) → lnum < used → Holds (volume_blocks s vol r (content.Static text)) (part lnum)
    part_held lnum below =
        let k : 0 + lnum ≡ lnum = omega arith in
        holds_map part (range_with_len 0 used) lnum
        (subst (λ n. Holds (range_with_len 0 used) n) k (holds_range 0 used lnum below))

    piece_read : (lnum : ℕ) → lnum < used → PieceIs s bs vol used lnum (Some (share (usable s r) text lnum))
    piece_read lnum below =
        let l : Laid = part lnum in
        let here = at.place l (part_held lnum below) in
        piece_checked s bs clean vol used lnum here.0 (record l.header { sqnum = here.1.sqnum }) l.text here.1.wins here.1.header
        (sym (ap (take (length l.text)) here.1.reads
        ∙ take_at l.text (blank (s.peb_size - (s.data_offset + length l.text))) (length l.text) refl))
        refl refl

    read_first : (n : ℕ) → n ≤ used → AreRead s bs vol used n (take (n * usable s r) text)
    read_first zero h = subst (AreRead s bs vol used 0) (sym (share_none (usable s r) text))
        (read_none s bs vol used)
    read_first (suc n) h =
        let next : n + 1 ≡ suc n = omega arith in
        subst (λ k. AreRead s bs vol used k (take (k * usable s r) text)) next
        (subst (AreRead s bs vol used (n + 1)) (share_more (usable s r) text n)
        (read_more s bs vol used n (take (n * usable s r) text) (share (usable s r) text n)
        (read_first n (omega arith)) (piece_read n (omega arith))))

    none_behind : (lnum : ℕ) → used ≤ lnum → NoMember s bs (vol, lnum)
    none_behind lnum out = at.no_other lnum (λ l h same.
        let e = map_holds part (range_with_len 0 used) l h in
        let number : e.0 ≡ lnum = ap (λ (l : Laid). l.header.lnum) e.2 ∙ same in
        let below = (range_holds 0 used e.0 e.1).1 in
        omega arith)

    text_reads : Fits s r (content.Static text) → VolumeReads s bs vol r (content.Static text)
    text_reads fits = (
      fits.0,
      fits.1,
      static_reads s bs vol used r text
          (subst (AreRead s bs vol used used) (shares_all (usable s r) size_some text)
          (read_first used (omega arith)))
          (pieces_few (usable s r) size_some (length text) r.reserved fits.2) none_behind,
    )

  -- a damaged volume
  module _ (at : LiesIn s bs vol (volume_blocks s vol r content.Damaged)) where
    abbrev lone : Laid
    lone = damaged_block (data_pad s r) vol

    lone_at : (p : ℕ) × IsLaidAt s bs lone p
    lone_at = at.place lone (0, refl)

    abbrev lone_header : VidHeader
    lone_header = record lone.header { sqnum = lone_at.1.sqnum }

    lone_used : UsedIs s bs vol 1
    lone_used = inr (
      0,
      lone_at.0,
      lone_at.1.wins,
      ap (λ (o : Option VidHeader). option_map_or (λ h. h.used_ebs) o 0) lone_at.1.header,
    )

    lone_text : (255 ∷ []) ≡ take 1 (leb s (block bs lone_at.0))
    lone_text =
        let room : 1 ≤ s.peb_size - (s.data_offset + 0) = omega (arith, g.leb) in
        sym (ap (take 1) lone_at.1.reads ∙ take-replicate 1 (s.peb_size - (s.data_offset + 0)) 255 room)

    no_piece : PieceIs s bs vol 1 0 None
    no_piece =
        piece_unchecked s bs clean vol 1 0 lone_at.0 lone_header (255 ∷ []) lone_at.1.wins lone_at.1.header lone_text
        (λ h. (let right = h.1 in let other = check_blank in omega arith))

    damaged_reads : Fits s r content.Damaged → VolumeReads s bs vol r content.Damaged
    damaged_reads fits = (fits.0, fits.1, damaged_piece s bs clean vol 1 lone_used r 0 (omega arith) no_piece)

  reads_by : (c : Content) → 1 ≤ usable s r → LiesIn s bs vol (volume_blocks s vol r c) → Fits s r c → VolumeReads s bs vol r c
  reads_by content.Updating some at fits = fits
  reads_by content.Damaged some at fits = damaged_reads at fits
  reads_by (content.Static text) some at fits = text_reads text some at fits
  reads_by (content.Dynamic lebs) some at fits = dynamic_reads lebs at fits

-- each of the volumes lies in them
volume_lies : (s : Sizes) (bs : List (List ℕ)) (volumes : VolumeMap) → AreLaidIn s bs volumes → (id : ℕ) (v : Volume)
    → finite.get volumes id ≡ Some v → LiesIn s bs id (volume_blocks s id v.entry v.content)
volume_lies s bs volumes laid id v e = record {
  place = λ l h.
      (let there = own_there s volumes id v e l h in
      all_at (λ l. (p : ℕ) × IsLaidAt s bs l p) (laid_blocks s (finite.entries volumes)) there.0 l laid.each there.1);
  no_other = λ lnum none. laid.no_other id lnum v e
      (all_from (λ l. ◌≡◌ {A = Leb} (leb_of l.header) (id, lnum) → ⊥) (laid_blocks s (finite.entries volumes)) (λ l h same.
      none l (own_only s volumes id v e l h (ap (λ (of : Leb). of.0) same)) (ap (λ (of : Leb). of.1) same)));
}

pub laid_read : LaidRead
laid_read s bs volumes g each clean laid id v e =
    let is = volume_at s volumes each id v e in
    reads_by s g bs clean id v.entry v.content (usable_some s v.entry is.sound) (volume_lies s bs volumes laid id v e) is.fits
