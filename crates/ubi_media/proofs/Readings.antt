-- Bytes have one form, and one reading as each of the two headers of an eraseblock.
use Rattle.ubi_media.proofs.Prelude.{◌≡◌, ◌≢◌, ℕ, inl, inr, Bool, true, false, not, List, refl, ap, sym, ◌∙◌, subst, ◌≤◌, arith, ◌↔◌, Option, Some, None, if◌then◌else◌, nat_eq, option_map_or, nat_tests, AllPass-from_list_all, list_all-from_AllPass, field, is_blank, is_sealed, form_of, Sizes, IsBlank, FormIs, Form, Sealed, EcFault, EcFields, EcRead, VidFault, VidRead}
use Rattle.std.proofs.lemmas.Bool.{eqb-true, eq-eqb}
use Rattle.ubi_media.specs.Ec as ec
use Rattle.ubi_media.specs.Vid as vid
use Rattle.ubi_media.specs.declared.header.Form.TheVariants.{Blank, Corrupt}
use Rattle.ubi_media.specs.declared.ec.EcRead.TheVariants as ec_read
use Rattle.ubi_media.specs.declared.vid.VidRead.TheVariants as vid_read

-- what the tests say of bytes
pub blank_of : (bytes : List ℕ) → is_blank bytes ≡ true → IsBlank bytes
blank_of bytes e = λ i d h. eqb-true _ 255 (AllPass-from_list_all (λ b. nat_eq b 255) bytes e i d h)

pub not_blank_of : (bytes : List ℕ) → is_blank bytes ≡ false → IsBlank bytes → ⊥
not_blank_of bytes e all = let t = list_all-from_AllPass (λ b. nat_eq b 255) bytes
    (λ i d h. eq-eqb _ 255 (all i d h)) in cc

pub not_equal : (a b : ℕ) → nat_eq a b ≡ false → a ≢ b
not_equal a b e h = let t = eq-eqb a b h in cc

module _ (magic : ℕ) (bytes : List ℕ) where
  form_cases : (m b q : Bool) → nat_eq (field 4 0 bytes) magic ≡ m → is_blank bytes ≡ b → is_sealed 60 bytes ≡ q
      → FormIs magic bytes (if not m then (if b then Blank else Corrupt) else (if q then Sealed else Corrupt))
  form_cases false true q e f g = (not_equal _ _ e, blank_of bytes f)
  form_cases false false q e f g = inl (not_equal _ _ e, not_blank_of bytes f)
  form_cases true b false e f g = inr (eqb-true _ _ e, not_equal _ _ g)
  form_cases true b true e f g = (eqb-true _ _ e, eqb-true _ _ g)

  pub form_is : FormIs magic bytes (form_of magic bytes)
  unfolding form_of
  form_is = form_cases _ _ _ refl refl refl

  pub one_form : (a b : Form) → FormIs magic bytes a → FormIs magic bytes b → a ≡ b
  one_form Blank Blank h k = refl
  one_form Blank Corrupt h k = elim k [ inl w ↦ absurd (w.1 h.1) | inr w ↦ absurd (h.0 w.0) ]
  one_form Blank Sealed h k = absurd (h.0 k.0)
  one_form Corrupt Blank h k = elim h [ inl w ↦ absurd (w.1 k.1) | inr w ↦ absurd (k.0 w.0) ]
  one_form Corrupt Corrupt h k = refl
  one_form Corrupt Sealed h k = elim h [ inl w ↦ absurd (w.0 k.0) | inr w ↦ absurd (w.1 k.1) ]
  one_form Sealed Blank h k = absurd (k.0 h.0)
  one_form Sealed Corrupt h k = elim k [ inl w ↦ absurd (w.0 h.0) | inr w ↦ absurd (w.1 h.1) ]
  one_form Sealed Sealed h k = refl

  pub only_form : (a : Form) → FormIs magic bytes a → a ≡ form_of magic bytes
  only_form a h = one_form a (form_of magic bytes) h form_is

-- a header without a fault has a counter of 31 bits
pub counter_within : (s : Sizes) (f : EcFields) → ec.first_fault s f ≡ None → f.counter ≤ 0x7FFFFFFF
unfolding ec.first_fault ec.breaks
counter_within s f e = grind (arith, nat_tests)

module _ (s : Sizes) (bytes : List ℕ) where
  ec_judged : (o : Option EcFault) → ec.first_fault s (ec.ec_fields bytes) ≡ o → FormIs ec.ec_magic bytes Sealed
      → ec.EcIs s bytes (option_map_or ec_read.Fault o (ec_read.Valid (ec.header_of (ec.ec_fields bytes))))
  ec_judged None e sealed = (sealed, e, refl)
  ec_judged (Some f) e sealed = (sealed, e)

  ec_by : (f : Form) → FormIs ec.ec_magic bytes f → ec.EcIs s bytes (ec.reading_by s (ec.ec_fields bytes) f)
  unfolding ec.judged
  ec_by Blank h = h
  ec_by Corrupt h = h
  ec_by Sealed h = ec_judged _ refl h

  ec_is : ec.EcIs s bytes (ec.ec_reading s bytes)
  unfolding ec.ec_reading
  ec_is = ec_by (form_of ec.ec_magic bytes) (form_is ec.ec_magic bytes)

  ec_only : (read : EcRead) → ec.EcIs s bytes read → read ≡ ec.ec_reading s bytes
  unfolding ec.ec_reading ec.judged
  ec_only ec_read.Blank h = ap (ec.reading_by s (ec.ec_fields bytes)) (only_form ec.ec_magic bytes Blank h)
  ec_only ec_read.Corrupt h = ap (ec.reading_by s (ec.ec_fields bytes)) (only_form ec.ec_magic bytes Corrupt h)
  ec_only (ec_read.Fault f) h =
      sym (ap (λ o. option_map_or ec_read.Fault o (ec_read.Valid (ec.header_of (ec.ec_fields bytes)))) h.1)
      ∙ ap (ec.reading_by s (ec.ec_fields bytes)) (only_form ec.ec_magic bytes Sealed h.0)
  ec_only (ec_read.Valid v) h =
      ap ec_read.Valid h.2
      ∙ sym (ap (λ o. option_map_or ec_read.Fault o (ec_read.Valid (ec.header_of (ec.ec_fields bytes)))) h.1)
      ∙ ap (ec.reading_by s (ec.ec_fields bytes)) (only_form ec.ec_magic bytes Sealed h.0)

  pub ec_is_of : (read : EcRead) → read ≡ ec.ec_reading s bytes → ec.EcIs s bytes read
  ec_is_of read e = subst (ec.EcIs s bytes) (sym e) ec_is

  pub one_ec_reading : (read : EcRead) → ec.EcIs s bytes read ↔ (read ≡ ec.ec_reading s bytes)
  one_ec_reading read = (ec_only read, ec_is_of read)

  vid_judged : (o : Option VidFault) → vid.first_fault s (vid.vid_fields bytes) ≡ o → FormIs vid.vid_magic bytes Sealed
      → vid.VidIs s bytes (option_map_or vid_read.Fault o (vid_read.Valid (vid.header_of (vid.vid_fields bytes))))
  vid_judged None e sealed = (sealed, e, refl)
  vid_judged (Some f) e sealed = (sealed, e)

  vid_by : (f : Form) → FormIs vid.vid_magic bytes f → vid.VidIs s bytes (vid.reading_by s (vid.vid_fields bytes) f)
  unfolding vid.judged
  vid_by Blank h = h
  vid_by Corrupt h = h
  vid_by Sealed h = vid_judged _ refl h

  vid_is : vid.VidIs s bytes (vid.vid_reading s bytes)
  unfolding vid.vid_reading
  vid_is = vid_by (form_of vid.vid_magic bytes) (form_is vid.vid_magic bytes)

  vid_only : (read : VidRead) → vid.VidIs s bytes read → read ≡ vid.vid_reading s bytes
  unfolding vid.vid_reading vid.judged
  vid_only vid_read.Blank h = ap (vid.reading_by s (vid.vid_fields bytes)) (only_form vid.vid_magic bytes Blank h)
  vid_only vid_read.Corrupt h = ap (vid.reading_by s (vid.vid_fields bytes)) (only_form vid.vid_magic bytes Corrupt h)
  vid_only (vid_read.Fault f) h =
      sym (ap (λ o. option_map_or vid_read.Fault o (vid_read.Valid (vid.header_of (vid.vid_fields bytes)))) h.1)
      ∙ ap (vid.reading_by s (vid.vid_fields bytes)) (only_form vid.vid_magic bytes Sealed h.0)
  vid_only (vid_read.Valid v) h =
      ap vid_read.Valid h.2
      ∙ sym (ap (λ o. option_map_or vid_read.Fault o (vid_read.Valid (vid.header_of (vid.vid_fields bytes)))) h.1)
      ∙ ap (vid.reading_by s (vid.vid_fields bytes)) (only_form vid.vid_magic bytes Sealed h.0)

  pub vid_is_of : (read : VidRead) → read ≡ vid.vid_reading s bytes → vid.VidIs s bytes read
  vid_is_of read e = subst (vid.VidIs s bytes) (sym e) vid_is

  pub one_vid_reading : (read : VidRead) → vid.VidIs s bytes read ↔ (read ≡ vid.vid_reading s bytes)
  one_vid_reading read = (vid_only read, vid_is_of read)
