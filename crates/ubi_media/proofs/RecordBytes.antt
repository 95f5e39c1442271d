-- What is written for a slot of the volume table is read back.
use Rattle.ubi_media.proofs.Prelude.{◌≡◌, ◌≢◌, ℕ, ◌+◌, ◌-◌, ◌%◌, ◌^◌, ◌<◌, ◌==◌, true, false, get_or, List, [], ◌∷◌, ◌++◌, length, take, drop, set, replicate, refl, sym, ap, subst, ◌∙◌, arith, append_assoc, length-append, slice_index, slice_range, Option, Some, None, if◌then◌else◌, ForSome, nat_tests, mod-lt, take_at, get_or_at, big_bytes, big_number-reads_back, crc_of, field, sealed, overwrite, padded, Sizes, leb_size, is_name, RecIs, data_pad, empty_record, fields_from, first_fault, rec_bytes, rec_fault, rec_fields, rec_front, record_of, slot_reading, kind_number, RecFits, VolumeRecord, VolKind, Dynamic, Static}
use Rattle.ubi_media.specs.declared.record.RecRead.TheVariants as read
use Rattle.ubi_media.proofs.Headers.{kind_back, flag_back}
use Rattle.ubi_media.proofs.Names.{IsName, name_facts, length-padded}
use Rattle.ubi_media.proofs.Records.{divisor_kept, signs_kept, name_kept, sealed_back}

-- the bytes of a record: with any padding, and with any bytes for its name
abbrev front_with : ℕ → List ℕ → VolumeRecord → List ℕ
front_with pad name r =
    big_bytes 4 r.reserved ++ big_bytes 4 r.alignment ++ big_bytes 4 pad
    ++ (kind_number r.kind ∷ (if r.marker then 1 else 0) ∷ []) ++ big_bytes 2 (length r.name) ++ name
    ++ (r.flags ∷ replicate 23 0)

length_with : (pad : ℕ) (name : List ℕ) (r : VolumeRecord) → length name ≡ 128 → length (front_with pad name r) ≡ 168
length_with pad name r e =
    omega (arith, length-append name (r.flags ∷ replicate 23 0))

over_zeros : (pad : ℕ) (name : List ℕ) (r : VolumeRecord) → length name ≡ 128
    → overwrite 16 name
    (overwrite 14 (big_bytes 2 (length r.name))
    (overwrite 8 (big_bytes 4 pad)
    (overwrite 4 (big_bytes 4 r.alignment)
    (overwrite 0 (big_bytes 4 r.reserved)
    (set (set (set (replicate 172 0) 12 (kind_number r.kind)) 13 (if r.marker then 1 else 0)) 144 r.flags)))))
    ≡ front_with pad name r ++ replicate 4 0
unfolding overwrite
over_zeros pad name r e =
    let numbers = overwrite 14 (big_bytes 2 (length r.name))
    (overwrite 8 (big_bytes 4 pad)
    (overwrite 4 (big_bytes 4 r.alignment)
    (overwrite 0 (big_bytes 4 r.reserved)
    (set (set (set (replicate 172 0) 12 (kind_number r.kind)) 13 (if r.marker then 1 else 0)) 144 r.flags)))) in
    ap (λ n. take 16 numbers ++ name ++ drop (16 + n) numbers) e
    ∙ sym (append_assoc (take 16 numbers ++ name) (r.flags ∷ replicate 23 0) (replicate 4 0))

-- what is written of a record without a fault
module _ (s : Sizes) (r : VolumeRecord) (sound : rec_fault s r ≡ None) where
  named : IsName r.name
  unfolding fields_from
  named =
      name_facts r.name
      (subst (λ name. is_name name ≡ true) (take_at r.name (replicate (128 - length r.name) 0) (length r.name) refl)
      (name_kept s (fields_from s r) sound))

  divisor : (r.alignment == 0) ≡ false
  unfolding fields_from
  divisor = divisor_kept s (fields_from s r) sound

  signs : (r.reserved < 2 ^ 31) × (r.alignment < 2 ^ 31)
  unfolding fields_from
  signs = signs_kept s (fields_from s r) sound

  pub rec_assembled : overwrite 16 (fields_from s r).name
      (overwrite 14 (big_bytes 2 (fields_from s r).name_len)
      (overwrite 8 (big_bytes 4 (fields_from s r).data_pad)
      (overwrite 4 (big_bytes 4 (fields_from s r).alignment)
      (overwrite 0 (big_bytes 4 (fields_from s r).reserved)
      (set (set (set (replicate 172 0) 12 (fields_from s r).kind) 13 (fields_from s r).marker) 144
      (fields_from s r).flags)))))
      ≡ rec_front s r ++ replicate 4 0
  rec_assembled =
      let pad : (fields_from s r).data_pad ≡ data_pad s r = unfold fields_from in
      ap (λ b. if b then 0 else data_pad s r) divisor in
      rw pad (unfold fields_from in over_zeros (data_pad s r) (padded r.name) r (length-padded r.name named))

  pub length-rec_front : length (rec_front s r) ≡ 168
  length-rec_front = length_with (data_pad s r) (padded r.name) r (length-padded r.name named)

-- what stands in the bytes of a record, with any padding
module _ (pad : ℕ) (r : VolumeRecord) (named : IsName r.name) where
  made : List ℕ
  made = front_with pad (padded r.name) r

  behind : List ℕ
  behind = (r.flags ∷ replicate 23 0) ++ big_bytes 4 (crc_of made)

  name_back : slice_range (sealed made) 16 144 ≡ padded r.name
  unfolding made behind
  name_back =
      ap (take 128) (append_assoc (padded r.name) (r.flags ∷ replicate 23 0) (big_bytes 4 (crc_of made)))
      ∙ take_at (padded r.name) behind 128 (length-padded r.name named)

  flags_back : slice_index (sealed made) 144 ≡ r.flags
  unfolding made
  flags_back =
      ap (λ bytes. get_or bytes 128 0)
      (append_assoc (padded r.name) (r.flags ∷ replicate 23 0) (big_bytes 4 (crc_of made)))
      ∙ get_or_at (padded r.name) r.flags (replicate 23 0 ++ big_bytes 4 (crc_of made)) 0 128
      (length-padded r.name named)

  length_back : field 2 14 (sealed made) ≡ length r.name
  unfolding made
  length_back = big_number-reads_back 2 (length r.name) [] (let h = named.to in omega arith)

  record_back : r.reserved < 2 ^ 32 → r.alignment < 2 ^ 32 → record_of (rec_fields (sealed made)) ≡ r
  unfolding made record_of rec_fields
  record_back reserved_fits alignment_fits =
      let reserved : field 4 0 (sealed made) ≡ r.reserved = big_number-reads_back 4 r.reserved [] reserved_fits in
      let alignment : field 4 4 (sealed made) ≡ r.alignment = big_number-reads_back 4 r.alignment [] alignment_fits in
      let name : take (field 2 14 (sealed made)) (slice_range (sealed made) 16 144) ≡ r.name =
      ap (λ n. take n (slice_range (sealed made) 16 144)) length_back
      ∙ ap (take (length r.name)) name_back
      ∙ take_at r.name (replicate (128 - length r.name) 0) (length r.name) refl in
      λ i. record {
        reserved = reserved i;
        alignment = alignment i;
        kind = kind_back r.kind i;
        marker = flag_back r.marker i;
        name = name i;
        flags = flags_back i;
      }

  fields_back : (s : Sizes) → r.reserved < 2 ^ 32 → r.alignment < 2 ^ 32 → pad < 2 ^ 32
      → (if r.alignment == 0 then 0 else data_pad s r) ≡ pad
      → rec_fields (sealed made) ≡ fields_from s r
  unfolding made rec_fields fields_from
  fields_back s reserved_fits alignment_fits pad_fits is_pad =
      let reserved : field 4 0 (sealed made) ≡ r.reserved = big_number-reads_back 4 r.reserved [] reserved_fits in
      let alignment : field 4 4 (sealed made) ≡ r.alignment = big_number-reads_back 4 r.alignment [] alignment_fits in
      let padding : field 4 8 (sealed made) ≡ pad = big_number-reads_back 4 pad [] pad_fits in
      λ i. record {
        reserved = reserved i;
        alignment = alignment i;
        data_pad = (padding ∙ sym is_pad) i;
        kind = kind_number r.kind;
        marker = if r.marker then 1 else 0;
        name_len = length_back i;
        name = name_back i;
        flags = flags_back i;
      }

-- the bytes of a record aren't the empty one's, since its type is never 0
kind_above : (k : VolKind) → kind_number k ≢ 0
kind_above Dynamic = λ e. cc
kind_above Static = λ e. cc

not_empty : (s : Sizes) (r : VolumeRecord) → sealed (rec_front s r) ≢ empty_record
unfolding empty_record
not_empty s r h = kind_above r.kind (ap (λ bytes. slice_index bytes 12) h)

module _ (s : Sizes) (r : VolumeRecord) (sound : rec_fault s r ≡ None) where
  is_pad : (if r.alignment == 0 then 0 else data_pad s r) ≡ data_pad s r
  is_pad = ap (λ b. if b then 0 else data_pad s r) (divisor s r sound)

  pad_fits : data_pad s r < 2 ^ 32
  pad_fits =
      let fits = signs s r sound in
      let zero_not = divisor s r sound in
      let above : 0 < r.alignment = grind (arith, nat_tests) in
      let below : leb_size s % r.alignment < r.alignment = mod-lt (leb_size s) above in
      omega arith

  back_to_fields : rec_fields (sealed (rec_front s r)) ≡ fields_from s r
  unfolding made
  back_to_fields =
      let fits = signs s r sound in
      fields_back (data_pad s r) r (named s r sound) s (omega arith) (omega arith) pad_fits is_pad

  back_to_record : record_of (rec_fields (sealed (rec_front s r))) ≡ r
  unfolding made
  back_to_record =
      let fits = signs s r sound in
      record_back (data_pad s r) r (named s r sound) (omega arith) (omega arith)

  pub rec_read_back : RecIs s (sealed (rec_front s r)) (read.Valid r)
  rec_read_back = (
    sealed_back 168 (rec_front s r) (length-rec_front s r sound),
    not_empty s r,
    ap (first_fault s) back_to_fields
        ∙ sound,
    sym back_to_record,
  )

pub slot_read_back : (s : Sizes) (slot : Option VolumeRecord) → ForSome slot (λ r. rec_fault s r ≡ None)
    → RecIs s (rec_bytes s slot) (slot_reading slot)
unfolding rec_bytes
slot_read_back s None sound = refl
slot_read_back s (Some r) sound = rec_read_back s r (sound r refl)

-- and two slots with the same bytes are the same
record_of_bytes : (s : Sizes) (r : VolumeRecord) → RecFits r → record_of (rec_fields (sealed (rec_front s r))) ≡ r
unfolding made
record_of_bytes s r fits = record_back (data_pad s r) r (name_facts r.name fits.name) fits.reserved fits.alignment

pub one_slot : (s : Sizes) (h k : Option VolumeRecord) → ForSome h RecFits → ForSome k RecFits
    → rec_bytes s h ≡ rec_bytes s k → h ≡ k
unfolding rec_bytes
one_slot s None None fits fits_too e = refl
one_slot s None (Some k) fits fits_too e = absurd (not_empty s k (sym e))
one_slot s (Some h) None fits fits_too e = absurd (not_empty s h e)
one_slot s (Some h) (Some k) fits fits_too e =
    ap Some
    (sym (record_of_bytes s h (fits h refl)) ∙ ap (λ bytes. record_of (rec_fields bytes)) e
    ∙ record_of_bytes s k (fits_too k refl))
