-- An image that is accepted with some page is accepted with each page of which that one is a multiple, with the same
-- meaning.
use Rattle.ubi_volume.proofs.Prelude.{◌≡◌, ℕ, ◌⊎◌, refl, inl, inr, List, ap, sym, ◌∙◌, subst, get, ◌∣◌, IfSome, None, Option, Some, slice_get, none-some, ec_reading, Sizes, with_page, vid_reading, rec_fault, RecFault, VolumeRecord, sound_kept, NoFault, Image, IsWholeImage, eraseblocks, layout, clean_of_page, member_of_page, no_member_of_page, scan_of_page, seq_of_page, some_more, wins_of_page, AreRecords, Records, table_records, resized, table_back, table_kept, Accepts, AcceptsBlocks, IsMismatched, Refuses, RefusesBlocks, IsAttached, BlockStateIs, AttachValue, HoldContents, LebReads, Means, SlotMeans, StaticReads, VolumeReads, IsMeaning, IsVolume, Meant, records_of, LesserPage, image_with_page, meaning_with_page, BlockState, Content, Volume}
use Rattle.ubi_media.specs.Ec.{breaks as ec_breaks, first_fault as first_ec_fault, judged as judged_ec}
use Rattle.ubi_media.specs.Vid.{breaks as vid_breaks, first_fault as first_vid_fault, judged as judged_vid}
use Rattle.ubi_media.specs.declared.record.RecFault.TheVariants as fault
use Rattle.ubi_media.specs.declared.refusal.Refusal.TheVariants as refusal
use Rattle.ubi_volume.specs.declared.attached.BlockState.TheVariants as state
use Rattle.ubi_volume.specs.declared.content.Content.TheVariants as content
use Rattle.ubi_volume.proofs.OneMeaning.{Accepts-unique, never_accepted_and_refused}

-- what volumes read with any page
module _ (s : Sizes) (page : ℕ) (bs : List (List ℕ)) where
  leb_of_page : (vol : ℕ) (r : VolumeRecord) (lnum : ℕ) (text : List ℕ) → LebReads s bs vol r lnum text
      → LebReads (with_page s page) bs vol r lnum text
  leb_of_page vol r lnum text (inl k) = inl (k.0, wins_of_page s page bs (vol, lnum) k.0 k.1, k.2)
  leb_of_page vol r lnum text (inr k) = inr (no_member_of_page s page bs (vol, lnum) k.0, k.1)

  whole_of_page : (vol : ℕ) (r : VolumeRecord) (ps : List ℕ) → HoldContents s bs vol r ps
      → HoldContents (with_page s page) bs vol r ps
  unfolding ec_reading judged_ec first_ec_fault ec_breaks vid_reading judged_vid first_vid_fault vid_breaks
  whole_of_page vol r ps a = record {
    some = a.some;
    within = a.within;
    win = λ l i. wins_of_page s page bs (vol, l) _ (a.win l i);
    no_other = λ l i. no_member_of_page s page bs (vol, l) (a.no_other l i);
    pieces = a.pieces;
  }

  static_of_page : (vol : ℕ) (r : VolumeRecord) (text : List ℕ) → StaticReads s bs vol r text
      → StaticReads (with_page s page) bs vol r text
  unfolding ec_reading judged_ec first_ec_fault ec_breaks vid_reading judged_vid first_vid_fault vid_breaks
  static_of_page vol r text (inl k) = inl ((λ l. no_member_of_page s page bs (vol, l) (k.0 l)), k.1)
  static_of_page vol r text (inr k) = inr (k.0, whole_of_page vol r k.0 k.1, k.2)

module _ (s : Sizes) (page : ℕ) (bs : List (List ℕ)) where
  volume_of_page : (vol : ℕ) (r : VolumeRecord) (c : Content) → VolumeReads s bs vol r c
      → VolumeReads (with_page s page) bs vol r c
  volume_of_page vol r content.Updating k = k
  volume_of_page vol r (content.Dynamic lebs) k = (k.0, k.1, λ l i. leb_of_page s page bs vol r l _ (k.2 l i))
  volume_of_page vol r (content.Static text) k = (k.0, k.1, static_of_page s page bs vol r text k.2)
  volume_of_page vol r content.Damaged k =
      (k.0, k.1, λ text d. k.2 text (static_of_page (with_page s page) s.page bs vol r text d))

  slot_of_page : (id : ℕ) (o : Option VolumeRecord) (v : Option Volume) → SlotMeans s bs id o v
      → SlotMeans (with_page s page) bs id o v
  slot_of_page id None None k = k
  slot_of_page id (Some r) (Some v) k = (k.0, volume_of_page id r v.content k.1)
  slot_of_page id None (Some v) k = k
  slot_of_page id (Some r) None k = k

  -- the state of an eraseblock
  state_of_page : (t : Records) (p : ℕ) (state : BlockState) → BlockStateIs s bs t p state
      → BlockStateIs (with_page s page) bs (resized t (with_page s page)) p state
  unfolding ec_reading judged_ec first_ec_fault ec_breaks vid_reading judged_vid first_vid_fault vid_breaks
  state_of_page t p state.Blank h = h
  state_of_page t p state.Free h = h
  state_of_page t p state.Garbage h = h
  state_of_page t p state.Corrupt h = h
  state_of_page t p state.Dropped h = h
  state_of_page t p state.Orphan h = (h.0, member_of_page s page bs h.0 p h.1, h.2)
  state_of_page t p state.Table h = (h.0, wins_of_page s page bs (layout, h.0) p h.1)
  state_of_page t p state.Used h = (h.0, wins_of_page s page bs h.0 p h.1, h.2, h.3)
  state_of_page t p state.Stale h = (
    h.0,
    member_of_page s page bs h.0 p h.1,
    λ wins. h.2 (wins_of_page (with_page s page) s.page bs h.0 p wins),
    h.3,
  )

  -- an eraseblock that is unlike the record of its volume
  mismatch_back : (t : Records) (p : ℕ) → IsMismatched (with_page s page) bs (resized t (with_page s page)) p
      → IsMismatched s bs t p
  unfolding ec_reading judged_ec first_ec_fault ec_breaks vid_reading judged_vid first_vid_fault vid_breaks
  mismatch_back t p m =
      let c = m.2 in
      let w = wins_of_page (with_page s page) s.page bs (c.vol, c.lnum) p c.wins in (
        m.0,
        m.1,
        record { vol = c.vol; lnum = c.lnum; wins = w; recorded = c.recorded; within = c.within },
        m.3,
        m.4,
        m.5,
      )

-- a meaning with a lesser page
volume_kept : (s : Sizes) (page : ℕ) → page ∣ s.page → (id : ℕ) (v : Volume) → IsVolume s id v
    → IsVolume (with_page s page) id v
volume_kept s page divides id v h = record {
  slot = h.slot;
  sound = sound_kept s page divides v.entry h.sound;
  fits = h.fits;
  kept = h.kept;
}

meaning_kept : (m : Meant) (page : ℕ) → page ∣ m.sizes.page → IsMeaning m → IsMeaning (meaning_with_page m page)
meaning_kept m page divides h = record {
  image_seq = h.image_seq;
  each = λ id. some_more (get m.volumes id) (volume_kept m.sizes page divides id) (h.each id);
  names = h.names;
  space = h.space;
}

module _ (s : Sizes) (page : ℕ) (divides : page ∣ s.page) (bs : List (List ℕ)) where
  means_kept : (t : Records) (m : Meant) → Means s bs t m
      → Means (with_page s page) bs (resized t (with_page s page)) (meaning_with_page m page)
  means_kept t m k = record {
    sizes = ap (λ z. with_page z page) k.sizes;
    image_seq = k.image_seq ∙ sym (seq_of_page s page bs);
    meaning = meaning_kept m page (subst (λ z. page ∣ z.page) (sym k.sizes) divides) k.meaning;
    slots = λ id. slot_of_page s page bs id _ _ (k.slots id);
  }

  blocks_kept : (m : Meant) → AcceptsBlocks s bs m → AcceptsBlocks (with_page s page) bs (meaning_with_page m page)
  blocks_kept m a = record {
    clean = clean_of_page s page bs a.clean;
    records = resized a.records (with_page s page);
    table = table_kept s page divides bs a.records a.table;
    alike = λ p k. a.alike p (mismatch_back s page bs a.records p k);
    means = means_kept a.records m a.means;
  }

  -- the other way round, where the records break no rule with the greater page
  volume_back : (t : Records) (m : Meant) (id : ℕ) → AreRecords (resized t s) → m.sizes ≡ with_page s page
      → (o : Option VolumeRecord) (v : Option Volume) → get t.of id ≡ o → SlotMeans (with_page s page) bs id o v
      → IfSome v (IsVolume m.sizes id) → IfSome v (IsVolume (with_page m.sizes s.page) id)
  volume_back t m id are sizes None None at k h = h
  volume_back t m id are sizes None (Some v) at k h = absurd k
  volume_back t m id are sizes (Some r) None at k h = h
  volume_back t m id are sizes (Some r) (Some v) at k h = record {
    slot = h.slot;
    sound = ap (λ z. rec_fault (with_page z s.page) v.entry) sizes ∙ ap (rec_fault s) k.0 ∙ are.sound id r at;
    fits = h.fits;
    kept = h.kept;
  }

  means_back : (t : Records) (m : Meant) → AreRecords (resized t s) → Means (with_page s page) bs t m
      → Means s bs (resized t s) (meaning_with_page m s.page)
  means_back t m are k = record {
    sizes = ap (λ z. with_page z s.page) k.sizes;
    image_seq = k.image_seq ∙ sym (seq_of_page (with_page s page) s.page bs);
    meaning = record {
      image_seq = k.meaning.image_seq;
      each = λ id.
          volume_back t m id are k.sizes (get t.of id) (get m.volumes id) refl (k.slots id) (k.meaning.each id);
      names = k.meaning.names;
      space = k.meaning.space;
    };
    slots = λ id. slot_of_page (with_page s page) s.page bs id _ _ (k.slots id);
  }

  blocks_back : (m : Meant) → AcceptsBlocks (with_page s page) bs m
      → AcceptsBlocks s bs (meaning_with_page m s.page)
      ⊎ ((p slot : ℕ) × RefusesBlocks s bs (refusal.Record p slot fault.AlignmentPage))
  blocks_back m a =
      let clean : NoFault s bs = clean_of_page (with_page s page) s.page bs a.clean in
      elim (table_back s page divides bs a.records a.table) [
        | inl table ↦ inl (record {
          clean = clean;
          records = resized a.records s;
          table = table;
          alike = λ p k. a.alike p (mismatch_back (with_page s page) s.page bs a.records p k);
          means = means_back a.records m (table_records s bs (resized a.records s) table).1 a.means;
        })
        | inr bad ↦ inr (bad.0, bad.1, inr (inl (clean, bad.2)))
      ]

accepted_kept : (image : Image) (m : Meant) (page : ℕ) → page ∣ image.sizes.page → Accepts image m
    → Accepts (image_with_page image page) (meaning_with_page m page)
accepted_kept image m page divides a = record {
  whole = record { some = a.whole.some; cut = a.whole.cut; fits = a.whole.fits };
  accepted = blocks_kept image.sizes page divides _ m a.accepted;
}

attached_kept : (image : Image) (a : AttachValue) (page : ℕ) → page ∣ image.sizes.page → IsAttached image a
    → IsAttached (image_with_page image page) (record a { meaning = meaning_with_page a.meaning page })
attached_kept image a page divides h =
    let s = image.sizes in
    let bs = eraseblocks image in
    record {
      accepted = accepted_kept image a.meaning page divides h.accepted;
      scan = scan_of_page s page bs a.scan h.scan;
      states = (
        h.states.0,
        λ p. some_more (slice_get a.states p) (state_of_page s page bs (records_of a.meaning) p) (h.states.1 p),
      );
    }

accepted_back : (image : Image) (m : Meant) (page : ℕ) → page ∣ image.sizes.page
    → Accepts (image_with_page image page) m
    → Accepts image (meaning_with_page m image.sizes.page)
    ⊎ ((p slot : ℕ) × Refuses image (refusal.Record p slot fault.AlignmentPage))
accepted_back image m page divides a =
    let whole : IsWholeImage image = record { some = a.whole.some; cut = a.whole.cut; fits = a.whole.fits } in
    elim (blocks_back image.sizes page divides (eraseblocks image) m a.accepted) [
      | inl accepted ↦ inl (record { whole = whole; accepted = accepted })
      | inr refused ↦ inr (refused.0, refused.1, inr (whole, refused.2))
    ]

pub lesser_page : LesserPage
lesser_page = record {
  accepted = accepted_kept;
  attached = attached_kept;
  refused = λ image m c page divides refused a.
      never_accepted_and_refused (image_with_page image page) (meaning_with_page m page) c
      (accepted_kept image m page divides a) refused;
  same = λ image m n page divides a b.
      Accepts-unique (image_with_page image page) n (meaning_with_page m page) b (accepted_kept image m page divides a);
  greater = accepted_back;
}

-- where a record breaks a rule with the greater page, that page doesn't accept what the lesser one does
pub greater_breaks : (image : Image) (m n : Meant) (page id : ℕ) (v : Volume) (c : RecFault) → page ∣ image.sizes.page
    → Accepts image n → Accepts (image_with_page image page) m → get m.volumes id ≡ Some v
    → rec_fault image.sizes v.entry ≡ Some c → ⊥
greater_breaks image m n page id v c divides a b is broken =
    let same : m ≡ meaning_with_page n page = lesser_page.same image n m page divides a b in
    let means = a.accepted.means in
    let there : get n.volumes id ≡ Some v = sym (ap (λ x. get x.volumes id) same) ∙ is in
    let volume : IsVolume n.sizes id v = subst (λ o. IfSome o (IsVolume n.sizes id)) there (means.meaning.each id) in
    none-some c (sym volume.sound ∙ ap (λ s. rec_fault s v.entry) means.sizes ∙ broken)
