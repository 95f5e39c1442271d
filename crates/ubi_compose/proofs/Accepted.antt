-- A normal image is accepted with its meaning.
use Rattle.ubi_compose.proofs.Prelude.{◌≡◌, ℕ, ◌+◌, ◌*◌, zero, suc, List, length, inl, inr, refl, sym, ap, ◌∙◌, subst, arith, None, Option, Some, option_map, AllByRecursion, concat, same_Some, IsGeometry, data_pad, VolumeRecord, VidHeader, NoFault, image_of, Leb, layout, IsTable, table_written, Accepts, AcceptsBlocks, NoMismatch, SlotMeans, IsMeaning, Meant, records_of, Volume, HasRoom, composed, Laid, layout_block, normal_blocks, normal_bytes, meant_by, records_are, records_fit, volume_is, record_of, own_like, laid_read, Holds, all_at, all_from, leb_of, AreApart, CanBeLaid, laid_blocks, AreLaidIn, IsLaidAt}
use Rattle.std.specs.FinMap as finite
use Rattle.ubi_compose.proofs.Image.{blocks_again, concat-image_blocks, header_at, image_blocks, image_clean, image_named, image_whole, laid_at, laid_wins, length-bytes, length-image_blocks, member_laid, none_laid, text_at}
use Rattle.ubi_compose.proofs.Normal.{apart_normal, fine_normal}

module _ (m : Meant) (g : IsGeometry m.sizes) (is : IsMeaning m) (spares : ℕ) where
  abbrev ls : List Laid
  ls = normal_blocks m

  abbrev bs : List (List ℕ)
  bs = image_blocks m.sizes m.image_seq (normal_blocks m) spares

  fine : AllByRecursion (CanBeLaid m.sizes) (normal_blocks m)
  fine = fine_normal m g is

  apart : AreApart (normal_blocks m)
  apart = apart_normal m g is

  clean : NoFault m.sizes bs
  clean = image_clean m.sizes g m.image_seq is.image_seq ls spares fine apart

  -- one of a volume isn't of the layout volume
  not_layout : (id : ℕ) (v : Volume) → finite.get m.volumes id ≡ Some v → (l : Laid) (copy : ℕ)
      → layout_block m copy ≡ l → l.header.vol_id ≡ id → ⊥
  not_layout id v e l copy at same =
      let slot = (volume_is m is id v e).slot in
      let one : layout ≡ l.header.vol_id = ap (λ (l : Laid). l.header.vol_id) at in
      omega arith

  -- so it is of the volumes
  of_volumes : (l : Laid) (id : ℕ) (v : Volume) → finite.get m.volumes id ≡ Some v → Holds (normal_blocks m) l
      → l.header.vol_id ≡ id → Holds (laid_blocks m.sizes (finite.entries m.volumes)) l
  of_volumes l id v e (zero, at) same = absurd (not_layout id v e l 0 (same_Some (layout_block m 0) l at) same)
  of_volumes l id v e (suc zero, at) same = absurd (not_layout id v e l 1 (same_Some (layout_block m 1) l at) same)
  of_volumes l id v e (suc (suc p), at) same = (p, at)

  -- they are laid out in the image
  laid : AreLaidIn m.sizes bs m.volumes
  laid = record {
    each = all_from (λ l. (p : ℕ) × IsLaidAt m.sizes bs l p) (laid_blocks m.sizes (finite.entries m.volumes))
        (λ l h. (suc (suc h.0), laid_at m.sizes g m.image_seq is.image_seq ls spares fine (suc (suc h.0)) l h.1));
    no_other = λ id lnum v e none.
        none_laid m.sizes g m.image_seq is.image_seq ls spares fine (id, lnum) (λ l h same.
        let there = of_volumes l id v e h (ap (λ (of : Leb). of.0) same) in
        all_at (λ l. ◌≡◌ {A = Leb} (leb_of l.header) (id, lnum) → ⊥) (laid_blocks m.sizes (finite.entries m.volumes)) there.0 l
        none there.1 same);
  }

  slot_by : (id : ℕ) (o : Option Volume) → finite.get m.volumes id ≡ o
      → SlotMeans m.sizes bs id (option_map (λ (v : Volume). v.entry) o) o
  slot_by id None e = tt
  slot_by id (Some v) e = (refl, laid_read m.sizes bs m.volumes g is.each clean laid id v e)

  slots : (id : ℕ) → SlotMeans m.sizes bs id (finite.get (records_of m).of id) (finite.get m.volumes id)
  slots id =
      subst (λ (r : Option VolumeRecord). SlotMeans m.sizes bs id r (finite.get m.volumes id)) (sym (record_of m id))
      (slot_by id (finite.get m.volumes id) refl)

  -- each winner is like its record
  alike : NoMismatch m.sizes bs (records_of m)
  alike p k =
      let r = k.0 in
      let h = k.1 in
      let counted = k.2 in
      let at = member_laid m.sizes g m.image_seq is.image_seq ls spares fine (counted.vol, counted.lnum) p counted.wins.member in
      let l = at.0 in
      let rec = meant_by m counted.vol r counted.recorded in
      let v = rec.0 in
      let mine = of_volumes l counted.vol v rec.1 (p, at.1) (ap (λ (of : Leb). of.0) at.2) in
      let like = own_like m.sizes m.volumes is.each counted.vol v rec.1 l mine (ap (λ (of : Leb). of.0) at.2) in
      let header : h ≡ l.header = same_Some h l.header (sym k.4 ∙ header_at m.sizes g m.image_seq is.image_seq ls spares fine p l at.1) in
      let kind : h.kind ≡ r.kind = ap (λ (h : VidHeader). h.kind) header ∙ like.0
      ∙ ap (λ (r : VolumeRecord). r.kind) rec.2 in
      let pad : h.data_pad ≡ data_pad m.sizes r = ap (λ (h : VidHeader). h.data_pad) header ∙ like.1
      ∙ ap (data_pad m.sizes) rec.2 in
      elim k.5 [ inl other ↦ other kind | inr other ↦ other pad ]

  table : IsTable m.sizes bs (records_of m)
  table =
      table_written m.sizes bs 0 (records_of m) _ refl (records_are m is) (records_fit m is)
      (laid_wins m.sizes g m.image_seq is.image_seq ls spares fine 0 (layout_block m 0) refl)
      (text_at m.sizes g m.image_seq is.image_seq ls spares fine 0 (layout_block m 0) refl)

  accepts_blocks : AcceptsBlocks m.sizes bs m
  accepts_blocks = record {
    clean = clean;
    records = records_of m;
    table = table;
    alike = alike;
    means = record {
      sizes = refl;
      image_seq = sym (image_named m.sizes g m.image_seq is.image_seq ls spares fine (omega arith));
      meaning = is;
      slots = slots;
    };
  }

  bytes_are : concat bs ≡ composed m spares
  unfolding normal_bytes
  bytes_are = concat-image_blocks m.sizes m.image_seq (normal_blocks m) spares

  pub length-composed : length (composed m spares) ≡ (length (normal_blocks m) + spares) * m.sizes.peb_size
  length-composed =
      ap length (sym bytes_are) ∙ length-bytes m.sizes g m.image_seq is.image_seq ls spares fine
      ∙ ap (λ n. n * m.sizes.peb_size) (length-image_blocks m.sizes g m.image_seq is.image_seq ls spares fine)

  pub normal_accepted : HasRoom m spares → Accepts (image_of m.sizes (composed m spares)) m
  normal_accepted room =
      subst (λ bytes. Accepts (image_of m.sizes bytes) m) bytes_are (record {
        whole = image_whole m.sizes g m.image_seq is.image_seq ls spares fine (omega arith) room;
        accepted = subst (λ x. AcceptsBlocks m.sizes x m) (sym (blocks_again m.sizes g m.image_seq is.image_seq ls spares fine)) accepts_blocks;
      })
