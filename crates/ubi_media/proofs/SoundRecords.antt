-- What is read as a record breaks no rule, as a value.
use Rattle.ubi_media.proofs.Prelude.{◌≡◌, ℕ, ◌%◌, ◌==◌, ◌&&◌, Bool, true, false, not, List, refl, subst, lit<, arith, IfSome, Option, Some, None, if◌then◌else◌, option_map_or, nat_tests, is_sealed, same_bytes, Sizes, leb_size, is_name, breaks, empty_record, faults, fields_from, first_fault, judged, rec_fault, rec_fields, rec_reading, record_of, IsNumberFault, RecFault, VolumeRecord}
use Rattle.ubi_media.specs.declared.record.RecFault.TheVariants as fault
use Rattle.ubi_media.specs.declared.record.RecRead.TheVariants as read
use Rattle.ubi_media.proofs.First.{found_passes}
use Rattle.ubi_media.proofs.Records.{divisor_kept, kept, name_kept, number_faults}

-- the padding that follows from the alignment is the one that was read
pad_is : (alignment pad left : ℕ) → (alignment == 0) ≡ false → (not (alignment == 0) && not (pad == left)) ≡ false
    → (if alignment == 0 then 0 else left) ≡ pad
pad_is alignment pad left e h = rw e (grind (arith, nat_tests))

module _ (s : Sizes) (bytes : List ℕ) (none : first_fault s (rec_fields bytes) ≡ None) where
  again : VolumeRecord
  again = record_of (rec_fields bytes)

  same_pad : (if (rec_fields bytes).alignment == 0 then 0 else leb_size s % (rec_fields bytes).alignment)
      ≡ (rec_fields bytes).data_pad
  same_pad = pad_is (rec_fields bytes).alignment (rec_fields bytes).data_pad (leb_size s % (rec_fields bytes).alignment)
      (divisor_kept s (rec_fields bytes) none)
      (unfold breaks in kept s (rec_fields bytes) none 4 (lit< tt))

  not_empty : breaks s (fields_from s again) fault.NotEmpty ≡ false
  not_empty = unfold breaks fields_from again record_of in kept s (rec_fields bytes) none 0 (lit< tt)

  not_negative : breaks s (fields_from s again) fault.Negative ≡ false
  not_negative = unfold breaks fields_from again record_of in rw same_pad (kept s (rec_fields bytes) none 1 (lit< tt))

  aligned : breaks s (fields_from s again) fault.Alignment ≡ false
  aligned = unfold breaks fields_from again record_of in kept s (rec_fields bytes) none 2 (lit< tt)

  aligned_page : breaks s (fields_from s again) fault.AlignmentPage ≡ false
  aligned_page = unfold breaks fields_from again record_of in kept s (rec_fields bytes) none 3 (lit< tt)

  named : is_name again.name ≡ true
  named = unfold again record_of in name_kept s (rec_fields bytes) none

  broken : (f : RecFault) → rec_fault s again ≡ Some f → breaks s (fields_from s again) f ≡ true
  broken f e = found_passes (breaks s (fields_from s again)) faults f (unfold first_fault in e)

  no_fault : (o : Option RecFault) → rec_fault s again ≡ o → IfSome o IsNumberFault → o ≡ None
  no_fault None e h = refl
  no_fault (Some fault.NotEmpty) e h = let k = broken fault.NotEmpty e in let n = not_empty in absurd (cc)
  no_fault (Some fault.Negative) e h = let k = broken fault.Negative e in let n = not_negative in absurd (cc)
  no_fault (Some fault.Alignment) e h = let k = broken fault.Alignment e in let n = aligned in absurd (cc)
  no_fault (Some fault.AlignmentPage) e h = let k = broken fault.AlignmentPage e in let n = aligned_page in absurd (cc)
  no_fault (Some fault.DataPad) e h = absurd h
  no_fault (Some fault.Kind) e h = absurd h
  no_fault (Some fault.Marker) e h = absurd h
  no_fault (Some fault.NameTooLong) e h = absurd h
  no_fault (Some fault.NameBlank) e h = absurd h
  no_fault (Some fault.NameLength) e h = absurd h

  record_sound : rec_fault s (record_of (rec_fields bytes)) ≡ None
  unfolding again
  record_sound = no_fault (rec_fault s again) refl (number_faults s again named)

judged_sound : (s : Sizes) (bytes : List ℕ) (r : VolumeRecord) (o : Option RecFault)
    → first_fault s (rec_fields bytes) ≡ o
    → option_map_or read.Fault o (read.Valid (record_of (rec_fields bytes))) ≡ read.Valid r → rec_fault s r ≡ None
judged_sound s bytes r None none e = let same : record_of (rec_fields bytes) ≡ r = cc in
    subst (λ x. rec_fault s x ≡ None) same (record_sound s bytes none)
judged_sound s bytes r (Some f) some e = absurd (cc)

valid_by : (s : Sizes) (bytes : List ℕ) (r : VolumeRecord) (q b : Bool)
    → (if not q then read.BadCrc else (if b then read.Empty else judged s (rec_fields bytes))) ≡ read.Valid r
    → rec_fault s r ≡ None
valid_by s bytes r false b e = absurd (cc)
valid_by s bytes r true true e = absurd (cc)
valid_by s bytes r true false e = judged_sound s bytes r (first_fault s (rec_fields bytes)) refl (unfold judged in e)

pub valid_sound : (s : Sizes) (bytes : List ℕ) (r : VolumeRecord) → rec_reading s bytes ≡ read.Valid r
    → rec_fault s r ≡ None
valid_sound s bytes r e = valid_by s bytes r (is_sealed 168 bytes) (same_bytes bytes empty_record)
    (unfold rec_reading in e)
