-- Bytes with a magic that isn't that of a header aren't a header.
use Rattle.ubi_detect.proofs.Prelude.{◌≡◌, ℕ, ◌+◌, ◌-◌, Bool, true, false, cond, List, take, drop, refl, ap, sym, ◌∙◌, arith, ◌==◌, IsFalse, None, not, take-take, big_number, ec_fields, ec_magic, ec_reading, ec_start, offsets_of, reading_by, sizes_naming, start_by, field, form_of, is_sealed, key_by, key_in, is_blank}
use Rattle.std.specs.Prelude.{slice_range}
use Rattle.ubi_media.specs.declared.header.Form.TheVariants as form

module _ (front : List ℕ) where
  neither : (b : Bool) → key_by front (start_by (offsets_of (ec_fields front))
      (reading_by (sizes_naming (offsets_of (ec_fields front))) (ec_fields front) (cond b form.Blank form.Corrupt))) ≡ None
  neither true = refl
  neither false = refl

  not_header : IsFalse (field 4 0 front == ec_magic) → key_in front ≡ None
  unfolding ec_start ec_reading form_of
  not_header other =
      ap (λ b. key_by front (start_by (offsets_of (ec_fields front))
      (reading_by (sizes_naming (offsets_of (ec_fields front))) (ec_fields front)
      (cond (not b) (cond (is_blank front) form.Blank form.Corrupt) (cond (is_sealed 60 front) form.Sealed form.Corrupt)))))
      other ∙ neither (is_blank front)

-- the first bytes of a range
pub front_of_range : (bytes : List ℕ) (at : ℕ) → slice_range (slice_range bytes at (at + 64)) 0 4 ≡ slice_range bytes at (at + 4)
front_of_range bytes at =
    let long : at + 64 - at ≡ 64 = omega arith in
    let short : at + 4 - at ≡ 4 = omega arith in
    ap (λ n. take 4 (take n (drop at bytes))) long ∙ take-take 4 64 (drop at bytes) (omega arith) ∙ ap (λ n. take n (drop at bytes)) (sym short)

pub no_key_there : (bytes : List ℕ) (at : ℕ) → IsFalse (big_number 4 (slice_range bytes at (at + 4)) == ec_magic)
    → None ≡ key_in (slice_range bytes at (at + 64))
no_key_there bytes at other =
    sym (not_header (slice_range bytes at (at + 64)) (ap (λ xs. big_number 4 xs == ec_magic) (front_of_range bytes at) ∙ other))
