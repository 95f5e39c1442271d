-- An eraseblock that was laid out is read back.
use Rattle.ubi_compose.proofs.Prelude.{◌≡◌, ℕ, ◌+◌, ◌-◌, ◌^◌, ◌<◌, ◌++◌, true, false, length, List, refl, ap, sym, ◌∙◌, subst, arith, then_some, option_map_or, None, Option, Some, option_map, ap₂, same_Some, ec_bytes, ec_reading, blank, IsGeometry, Sizes, vid_bytes, vid_fault, vid_reading, VidHeader, ec_read_back, fields_fit, vid_read_back, one_ec_reading, one_vid_reading, IsSound, IsMislaid, ec, leb, vid, foreign, foreign_if, good_in, is_good, leb_of, member, member_if, named_in, sqnum_in, seq_if, seq_of, Laid, laid_bytes, new_ec, not, CanBeLaid}
use Rattle.ubi_media.specs.declared.ec.EcRead.TheVariants as ec_read
use Rattle.ubi_media.specs.declared.vid.VidRead.TheVariants as vid_read
use Rattle.ubi_scan.proofs.Parts as parts

-- the erase-counter header of each eraseblock of a normal image
pub new_ec_back : (s : Sizes) → IsGeometry s → (seq : ℕ) → seq < 2 ^ 32
    → ec_reading s (ec_bytes s (new_ec seq)) ≡ ec_read.Valid (new_ec seq)
new_ec_back s g seq narrow =
    sym ((one_ec_reading s (ec_bytes s (new_ec seq)) (ec_read.Valid (new_ec seq))).0
    (ec_read_back s (new_ec seq) (omega (arith, g.data_from, g.leb, g.peb_to)) (omega (arith, g.leb, g.peb_to))
    (omega arith) narrow))

module _ (s : Sizes) (g : IsGeometry s) (seq : ℕ) (narrow : seq < 2 ^ 32) (l : Laid) (fine : CanBeLaid s l) where
  ec_size : length (ec_bytes s (new_ec seq)) ≡ 64
  ec_size = refl

  vid_size : length (vid_bytes l.header) ≡ 64
  vid_size = refl

  pub length-laid_bytes : length (laid_bytes s (new_ec seq) l) ≡ s.peb_size
  length-laid_bytes = parts.length-laid s g _ _ ec_size vid_size l.text fine.room

  pub ec-laid_bytes : ec s (laid_bytes s (new_ec seq) l) ≡ ec_read.Valid (new_ec seq)
  ec-laid_bytes = ap (ec_reading s) (parts.ec-laid s g _ _ ec_size vid_size l.text fine.room) ∙ new_ec_back s g seq narrow

  vid-laid_bytes : vid s (laid_bytes s (new_ec seq) l) ≡ vid_read.Valid l.header
  vid-laid_bytes =
      ap (vid_reading s) (parts.vid-laid s g _ _ ec_size vid_size l.text fine.room)
      ∙ sym ((one_vid_reading s (vid_bytes l.header) (vid_read.Valid l.header)).0
      (vid_read_back s l.header (fields_fit l.header fine.fits) fine.sound))

  -- its LEB begins with the text, and is 0xFF behind it
  pub leb-laid_bytes : leb s (laid_bytes s (new_ec seq) l) ≡ l.text ++ blank (s.peb_size - (s.data_offset + length l.text))
  leb-laid_bytes = parts.leb-laid s g _ _ ec_size vid_size l.text fine.room

  pub member-laid_bytes : member s (laid_bytes s (new_ec seq) l) ≡ Some l.header
  member-laid_bytes = ap₂ member_if ec-laid_bytes vid-laid_bytes ∙ ap (λ b. then_some b l.header) fine.known

  foreign-laid_bytes : foreign s (laid_bytes s (new_ec seq) l) ≡ None
  foreign-laid_bytes = ap₂ foreign_if ec-laid_bytes vid-laid_bytes ∙ ap (λ b. then_some (not b) l.header) fine.known

  pub named-laid_bytes : named_in s (laid_bytes s (new_ec seq) l) ≡ Some (leb_of l.header)
  named-laid_bytes = ap (option_map leb_of) member-laid_bytes

  pub sqnum-laid_bytes : sqnum_in s (laid_bytes s (new_ec seq) l) ≡ 0
  sqnum-laid_bytes = ap (λ (o : Option VidHeader). option_map_or (λ h. h.sqnum) o 0) member-laid_bytes ∙ fine.number

  pub good-laid_bytes : good_in s (laid_bytes s (new_ec seq) l) ≡ true
  good-laid_bytes =
      ap (λ (o : Option VidHeader). option_map_or (is_good s (laid_bytes s (new_ec seq) l)) o false) member-laid_bytes
      ∙ good_original (laid_bytes s (new_ec seq) l) l.header fine.original
    where
      good_original : (b : List ℕ) (h : VidHeader) → h.copy_flag ≡ false → is_good s b h ≡ true
      good_original b h e = rw e refl

  pub seq-laid_bytes : seq_of s (laid_bytes s (new_ec seq) l) ≡ seq
  seq-laid_bytes = ap seq_if ec-laid_bytes

  pub sound-laid_bytes : IsSound s (laid_bytes s (new_ec seq) l)
  sound-laid_bytes = record {
    no_ec_fault = λ f e. let is = ec-laid_bytes in cc;
    no_vid_fault = λ f used e. let is = vid-laid_bytes in cc;
    compatible = λ h e k. let is = foreign-laid_bytes in cc;
    laid = λ h e k. fine.placed (subst IsMislaid (same_Some h l.header (sym e ∙ member-laid_bytes)) k);
  }
