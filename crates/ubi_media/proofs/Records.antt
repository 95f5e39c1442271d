-- Bytes have one reading as a record of the volume table, and only the numbers of a record can break a rule.
use Rattle.ubi_media.proofs.Prelude.{◌≡◌, ◌≢◌, ℕ, ◌+◌, ◌-◌, ◌%◌, ◌^◌, ◌<◌, ◌≤◌, ◌==◌, ◌&&◌, Bool, true, false, not, cond, get_or, nat_lt, List, [], length, take, replicate, refl, sym, ap, subst, ◌∙◌, lit<, arith, slice_index, slice_range, IfSome, eq-eqb, eqb-true, ◌↔◌, Option, Some, None, if◌then◌else◌, option_map_or, same_text, other_text, nat_tests, take_at, drop_at, mod_below, big_bytes, big_number, big_number-reads_back, crc_of, sealed, is_sealed, same_bytes, Sizes, leb_size, IsSealed, is_name, RecIs, breaks, data_pad, empty_record, ends_at, faults, fields_from, first_fault, judged, rec_fault, rec_fields, rec_reading, record_of, usable, kind_number, IsNumberFault, RecFault, RecFields, RecRead, VolumeRecord, VolKind, Dynamic, Static}
use Rattle.ubi_media.specs.declared.record.RecFault.TheVariants as fault
use Rattle.ubi_media.specs.declared.record.RecRead.TheVariants as read
use Rattle.ubi_media.proofs.Checks.{check_from-lt}
use Rattle.ubi_media.proofs.First.{none_passes}
use Rattle.ubi_media.proofs.Names.{IsName, name_facts, padded_ends, padded_begins, begins_with_name}
use Rattle.ubi_media.proofs.Readings.{not_equal}

-- what isn't so is otherwise
not_true : (b : Bool) → (b ≡ true → ⊥) → b ≡ false
not_true true h = absurd (h refl)
not_true false h = refl

not_false : (b : Bool) → (b ≡ false → ⊥) → b ≡ true
not_false true h = refl
not_false false h = absurd (h refl)

-- fields that break no rule
module _ (s : Sizes) (f : RecFields) where
  pub kept : first_fault s f ≡ None → (i : ℕ) → i < length faults → breaks s f (get_or faults i fault.NotEmpty) ≡ false
  unfolding first_fault
  kept e i h = none_passes (breaks s f) faults e i fault.NotEmpty h

  pub length_kept : first_fault s f ≡ None → f.name_len ≤ 127
  unfolding breaks
  length_kept e = let h = kept e 7 (lit< tt) in grind (arith, nat_tests)

  begin_kept : first_fault s f ≡ None → (slice_index f.name 0 == 0) ≡ false
  unfolding breaks
  begin_kept e = kept e 8 (lit< tt)

  end_kept : first_fault s f ≡ None → ends_at f.name f.name_len ≡ true
  unfolding breaks
  end_kept e = not_false _ (λ h. let broken : breaks s f fault.NameLength ≡ true = ap not h in
      let right = kept e 9 (lit< tt) in cc)

  pub divisor_kept : first_fault s f ≡ None → (f.alignment == 0) ≡ false
  unfolding breaks
  divisor_kept e = let h = kept e 2 (lit< tt) in
      not_true _ (λ t. let broken : breaks s f fault.Alignment ≡ true = rw t refl in cc)

  alignment_kept : first_fault s f ≡ None → (1 ≤ f.alignment) × (f.alignment ≤ leb_size s)
  unfolding breaks
  alignment_kept e = let h = kept e 2 (lit< tt) in (grind (arith, nat_tests), grind (arith, nat_tests))

  pub signs_kept : first_fault s f ≡ None → (f.reserved < 2 ^ 31) × (f.alignment < 2 ^ 31)
  unfolding breaks
  signs_kept e = let h = kept e 1 (lit< tt) in (grind (arith, nat_tests), grind (arith, nat_tests))

  pub name_kept : first_fault s f ≡ None → is_name (take f.name_len f.name) ≡ true
  name_kept e = begins_with_name f.name f.name_len (length_kept e) (begin_kept e) (end_kept e)

-- what is sealed is found to be so
pub sealed_back : (at : ℕ) (front : List ℕ) → length front ≡ at → IsSealed at (sealed front)
sealed_back at front e =
    let sum = big_bytes 4 (crc_of front) in
    let size : at + 4 - at ≡ 4 = omega arith in
    let part : slice_range (sealed front) at (at + 4) ≡ sum = rw (drop_at front sum at e, size) refl in
    ap (big_number 4) part
    ∙ big_number-reads_back 4 (crc_of front) [] (check_from-lt 0xFFFFFFFF front (omega arith))
    ∙ sym (ap crc_of (take_at front sum at e))

empty_sealed : IsSealed 168 empty_record
unfolding empty_record
empty_sealed = sealed_back 168 (replicate 168 0) refl

-- the one reading
module _ (s : Sizes) (bytes : List ℕ) where
  by : Bool → Bool → RecRead
  by q e = if not q then read.BadCrc else (if e then read.Empty else judged s (rec_fields bytes))

  judged_is : (o : Option RecFault) → first_fault s (rec_fields bytes) ≡ o → IsSealed 168 bytes → bytes ≢ empty_record
      → RecIs s bytes (option_map_or read.Fault o (read.Valid (record_of (rec_fields bytes))))
  judged_is None e h k = (h, k, e, refl)
  judged_is (Some f) e h k = (h, k, e)

  rec_cases : (q e : Bool) → is_sealed 168 bytes ≡ q → same_bytes bytes empty_record ≡ e → RecIs s bytes (by q e)
  unfolding by judged
  rec_cases false e h k = not_equal _ _ h
  rec_cases true true h k = same_text bytes empty_record (sym k)
  rec_cases true false h k = judged_is _ refl (eqb-true _ _ h) (other_text bytes empty_record (sym k))

  rec_is : RecIs s bytes (rec_reading s bytes)
  unfolding by rec_reading
  rec_is = rec_cases _ _ refl refl

  reads : (q e : Bool) → is_sealed 168 bytes ≡ q → same_bytes bytes empty_record ≡ e → by q e ≡ rec_reading s bytes
  unfolding by rec_reading
  reads q e h k = sym (ap (λ x. by x (same_bytes bytes empty_record)) h ∙ ap (by q) k)

  pub reads_bad : is_sealed 168 bytes ≡ false → read.BadCrc ≡ rec_reading s bytes
  unfolding by
  reads_bad h = reads false _ h refl

  pub reads_empty : is_sealed 168 bytes ≡ true → same_bytes bytes empty_record ≡ true → read.Empty ≡ rec_reading s bytes
  unfolding by
  reads_empty h k = reads true true h k

  pub reads_judged : is_sealed 168 bytes ≡ true → same_bytes bytes empty_record ≡ false
      → judged s (rec_fields bytes) ≡ rec_reading s bytes
  unfolding by
  reads_judged h k = reads true false h k

  reads_sound : IsSealed 168 bytes → bytes ≢ empty_record → (o : Option RecFault) → first_fault s (rec_fields bytes) ≡ o
      → option_map_or read.Fault o (read.Valid (record_of (rec_fields bytes))) ≡ rec_reading s bytes
  unfolding judged
  reads_sound h k o e =
      sym (ap (λ x. option_map_or read.Fault x (read.Valid (record_of (rec_fields bytes)))) e)
      ∙ reads_judged (eq-eqb _ _ h) (not_true _ (λ t. k (same_text bytes empty_record (sym t))))

  rec_only : (r : RecRead) → RecIs s bytes r → r ≡ rec_reading s bytes
  rec_only read.BadCrc h = reads_bad (not_true _ (λ t. h (eqb-true _ _ t)))
  rec_only read.Empty h =
      reads_empty (eq-eqb _ _ (subst (IsSealed 168) (sym h) empty_sealed))
      (not_false _ (λ t. other_text bytes empty_record (sym t) h))
  rec_only (read.Fault f) h = reads_sound h.0 h.1 (Some f) h.2
  rec_only (read.Valid r) h = ap read.Valid h.3 ∙ reads_sound h.0 h.1 None h.2

  pub rec_is_of : (r : RecRead) → r ≡ rec_reading s bytes → RecIs s bytes r
  rec_is_of r e = subst (RecIs s bytes) (sym e) rec_is

  pub one_rec_reading : (r : RecRead) → RecIs s bytes r ↔ (r ≡ rec_reading s bytes)
  one_rec_reading r = (rec_only r, rec_is_of r)

-- of a record only the numbers can break a rule
kind_is : (k : VolKind) → (not (kind_number k == 1) && not (kind_number k == 2)) ≡ false
kind_is Dynamic = refl
kind_is Static = refl

marker_is : (b : Bool) → nat_lt 1 (if b then 1 else 0) ≡ false
marker_is true = refl
marker_is false = refl

pad_is : (alignment pad : ℕ) → (not (alignment == 0) && not ((if alignment == 0 then 0 else pad) == pad)) ≡ false
pad_is alignment pad =
    elim (alignment == 0) as (λ b. (not b && not ((if b then 0 else pad) == pad)) ≡ false) [
      | true ↦ refl
      | false ↦ ap not (eq-eqb pad pad refl)
    ]

of_numbers : (a b c d : Bool)
    → IfSome
    (cond a (Some fault.NotEmpty)
    (cond b (Some fault.Negative) (cond c (Some fault.Alignment) (cond d (Some fault.AlignmentPage) None))))
    IsNumberFault
of_numbers true b c d = tt
of_numbers false true c d = tt
of_numbers false false true d = tt
of_numbers false false false true = tt
of_numbers false false false false = tt

pub number_faults : (s : Sizes) (r : VolumeRecord) → is_name r.name ≡ true → IfSome (rec_fault s r) IsNumberFault
unfolding first_fault
number_faults s r e =
    let f = fields_from s r in
    let named : IsName r.name = name_facts r.name e in
    let pad : breaks s f fault.DataPad ≡ false = unfold breaks fields_from in pad_is r.alignment (data_pad s r) in
    let kind : breaks s f fault.Kind ≡ false = unfold breaks fields_from in kind_is r.kind in
    let marker : breaks s f fault.Marker ≡ false = unfold breaks fields_from in marker_is r.marker in
    let long : breaks s f fault.NameTooLong ≡ false = unfold breaks fields_from in
    (let h = named.to in grind (arith, nat_tests)) in
    let blank : breaks s f fault.NameBlank ≡ false = unfold breaks fields_from in padded_begins r.name named in
    let ends : breaks s f fault.NameLength ≡ false = unfold breaks fields_from in ap not (padded_ends r.name named) in
    rw (pad, kind, marker, long, blank, ends)
    (of_numbers (breaks s f fault.NotEmpty) (breaks s f fault.Negative) (breaks s f fault.Alignment)
    (breaks s f fault.AlignmentPage))

-- the numbers of a record that breaks no rule
pub alignment_within : (s : Sizes) (r : VolumeRecord) → rec_fault s r ≡ None
    → (1 ≤ r.alignment) × (r.alignment ≤ leb_size s)
unfolding fields_from
alignment_within s r e = alignment_kept s (fields_from s r) e

pub usable_some : (s : Sizes) (r : VolumeRecord) → rec_fault s r ≡ None → 1 ≤ usable s r
usable_some s r e =
    let w = alignment_within s r e in
    let rest : leb_size s % r.alignment < r.alignment = mod_below (leb_size s) r.alignment (omega (arith, w.0)) in
    omega (arith, w.1, rest)
