-- A record that breaks no rule with some page breaks none with a page of which that one is a multiple, and reads the
-- same: all that a greater page can do to a record is to put it at fault.
use Rattle.ubi_media.proofs.Prelude.{◌≡◌, ℕ, ◌%◌, ◌==◌, ◌&&◌, ◌⊎◌, inl, inr, Bool, true, false, not, cond, List, refl, ap, sym, ◌∙◌, eq-eqb, eqb-true, ◌∣◌, Option, Some, None, option_map_or, none-some, dvd_of_mod-eq-zero, dvd_trans, mod-eq-zero_of_dvd, is_sealed, same_bytes, Sizes, with_page, breaks, empty_record, fields_from, first_fault, judged, rec_fault, rec_fields, rec_reading, record_of, RecFault, RecFields, RecRead, VolumeRecord}
use Rattle.ubi_media.specs.declared.record.RecFault.TheVariants as fault
use Rattle.ubi_media.specs.declared.record.RecRead.TheVariants as read

-- an alignment that is 1 or a multiple of a number is 1 or a multiple of what divides that number
aligned : (n page least : ℕ) → least ∣ page → (b c : Bool) → (n % page == 0) ≡ c → (not b && not c) ≡ false
    → (not b && not (n % least == 0)) ≡ false
aligned n page least divides true c e h = refl
aligned n page least divides false true e h =
    let multiple : least ∣ n = dvd_trans least divides (dvd_of_mod-eq-zero page (eqb-true (n % page) 0 e)) in
    ap not (eq-eqb (n % least) 0 (mod-eq-zero_of_dvd least multiple))
aligned n page least divides false false e h = absurd cc

-- of rules that are tried in turn, one may be kept that was broken: it was the first, or nothing changes
changed : (a b c d e : Bool) (rest : Option RecFault) → (d ≡ false → e ≡ false)
    → (cond a (Some fault.NotEmpty)
    (cond b (Some fault.Negative) (cond c (Some fault.Alignment) (cond e (Some fault.AlignmentPage) rest)))
    ≡ cond a (Some fault.NotEmpty)
    (cond b (Some fault.Negative) (cond c (Some fault.Alignment) (cond d (Some fault.AlignmentPage) rest))))
    ⊎ (cond a (Some fault.NotEmpty)
    (cond b (Some fault.Negative) (cond c (Some fault.Alignment) (cond d (Some fault.AlignmentPage) rest)))
    ≡ Some fault.AlignmentPage)
changed true b c d e rest kept = inl refl
changed false true c d e rest kept = inl refl
changed false false true d e rest kept = inl refl
changed false false false true e rest kept = inr refl
changed false false false false e rest kept = inl (ap (λ x. cond x (Some fault.AlignmentPage) rest) (kept refl))

module _ (s : Sizes) (page : ℕ) (divides : page ∣ s.page) where
  fault_kept : (f : RecFields)
      → (first_fault (with_page s page) f ≡ first_fault s f) ⊎ (first_fault s f ≡ Some fault.AlignmentPage)
  unfolding first_fault breaks
  fault_kept f =
      changed (breaks s f fault.NotEmpty) (breaks s f fault.Negative) (breaks s f fault.Alignment)
      (breaks s f fault.AlignmentPage) (breaks (with_page s page) f fault.AlignmentPage) _
      (aligned f.alignment s.page page divides (f.alignment == 1) (f.alignment % s.page == 0) refl)

  -- a record that breaks no rule
  pub sound_kept : (r : VolumeRecord) → rec_fault s r ≡ None → rec_fault (with_page s page) r ≡ None
  unfolding fields_from
  sound_kept r none =
      elim (fault_kept (fields_from s r)) [
        | inl same ↦ same ∙ none
        | inr broken ↦ absurd (none-some fault.AlignmentPage (sym none ∙ broken))
      ]

  judged_kept : (f : RecFields)
      → (judged (with_page s page) f ≡ judged s f) ⊎ (judged s f ≡ read.Fault fault.AlignmentPage)
  unfolding judged
  judged_kept f =
      elim (fault_kept f) [
        | inl same ↦ inl (ap (λ x. option_map_or read.Fault x (read.Valid (record_of f))) same)
        | inr broken ↦ inr (ap (λ x. option_map_or read.Fault x (read.Valid (record_of f))) broken)
      ]

  reading_by : (q e : Bool) (a b : RecRead) → (a ≡ b) ⊎ (b ≡ read.Fault fault.AlignmentPage)
      → (cond (not q) read.BadCrc (cond e read.Empty a) ≡ cond (not q) read.BadCrc (cond e read.Empty b))
      ⊎ (cond (not q) read.BadCrc (cond e read.Empty b) ≡ read.Fault fault.AlignmentPage)
  reading_by false e a b h = inl refl
  reading_by true true a b h = inl refl
  reading_by true false a b h = h

  -- the bytes of a record read the same, or with the greater page its alignment is at fault
  pub reading_kept : (bytes : List ℕ)
      → (rec_reading (with_page s page) bytes ≡ rec_reading s bytes)
      ⊎ (rec_reading s bytes ≡ read.Fault fault.AlignmentPage)
  unfolding rec_reading
  reading_kept bytes =
      reading_by (is_sealed 168 bytes) (same_bytes bytes empty_record) (judged (with_page s page) (rec_fields bytes))
      (judged s (rec_fields bytes)) (judged_kept (rec_fields bytes))
