-- What is known of a volume that a config describes.
use Rattle.ubi_config.proofs.Prelude.{◌≡◌, ◌<◌, ◌≤◌, ◌-◌, ◌^◌, ℕ, Bool, true, false, not, List, [], arith, length, refl, subst, Option, Some, None, nat_tests, option_or, then_some, Sizes, breaks, fields_from, rec_fault, ◌&&◌, ◌*◌, lit<, take-append_seam, mul-le, is_some, replicate, unwrap_or, kept, name_kept, signs_kept, usable_some, IsGeometry, is_name, usable, VolumeRecord, most_bytes, bytes_reserved, has_words, is_growing, is_writable, left_out, path_of, ConfigVolume, LeftOut, most_number}
use Rattle.ubi_config.proofs.QuotedValues.{CanWrite, can_write}
use Rattle.ubi_config.specs.declared.volume.LeftOut.TheVariants as why

none_of : (b : Bool) (c : LeftOut) (rest : Option LeftOut) → option_or (then_some b c) rest ≡ None
    → (b ≡ false) × (rest ≡ None)
none_of true c rest h = absurd (cc)
none_of false c rest h = (refl, h)

not_true : (b : Bool) → not b ≡ false → b ≡ true
not_true true h = refl
not_true false h = absurd (cc)

-- why a volume isn't left out
pub record IsSaid (grow : Bool) (v : ConfigVolume) : Type 0 where
  pub unmarked : v.entry.marker ≡ false
  pub there : is_some v.image ≡ true
  pub name : CanWrite v.entry.name
  pub path : CanWrite (path_of v)
  pub flags : has_words v.entry.kind v.entry.flags ≡ true
  pub grows : (is_growing v && not grow) ≡ false

pub is_said : (grow : Bool) (v : ConfigVolume) → left_out grow v ≡ None → IsSaid grow v
unfolding left_out
is_said grow v h =
    let one = none_of v.entry.marker why.Updating _ h in
    let two = none_of (not (is_some v.image)) why.Damaged _ one.1 in
    let three = none_of (not (is_writable v.entry.name)) why.Name _ two.1 in
    let four = none_of (not (is_writable (path_of v))) why.Path _ three.1 in
    let five = none_of (not (has_words v.entry.kind v.entry.flags)) why.Flags _ four.1 in
    let six = none_of (is_growing v && not grow) why.Growing _ five.1 in
    record {
      unmarked = one.0;
      there = not_true (is_some v.image) two.0;
      name = can_write v.entry.name (not_true (is_writable v.entry.name) three.0);
      path = can_write (path_of v) (not_true (is_writable (path_of v)) four.0);
      flags = not_true (has_words v.entry.kind v.entry.flags) five.0;
      grows = six.0;
    }

image_by : (o : Option (List ℕ)) → is_some o ≡ true → o ≡ Some (unwrap_or o [])
image_by (Some path) h = refl
image_by None h = absurd (cc)

pub image_is : (v : ConfigVolume) → is_some v.image ≡ true → v.image ≡ Some (path_of v)
image_is v h = image_by v.image h

-- a record that breaks no rule reserves some eraseblocks, and not too many
pub reserved_some : (s : Sizes) (r : VolumeRecord) → rec_fault s r ≡ None → 1 ≤ r.reserved
unfolding fields_from breaks
reserved_some s r sound = let h = kept s (fields_from s r) sound 0 (lit< tt) in grind (arith, nat_tests)

pub reserved_few : (s : Sizes) (r : VolumeRecord) → rec_fault s r ≡ None → r.reserved < 2 ^ 31
unfolding fields_from
reserved_few s r sound = (signs_kept s (fields_from s r) sound).0

-- what is known of a record that breaks no rule
module _ (s : Sizes) (g : IsGeometry s) (r : VolumeRecord) (sound : rec_fault s r ≡ None) where
  pub named : is_name r.name ≡ true
  unfolding fields_from
  named =
      subst (λ name. is_name name ≡ true) (take-append_seam r.name (replicate (128 - length r.name) 0))
      (name_kept s (fields_from s r) sound)

  signs : (r.reserved < 2 ^ 31) × (r.alignment < 2 ^ 31)
  unfolding fields_from
  signs = signs_kept s (fields_from s r) sound

  pub alignment_fits : r.alignment ≤ most_number
  alignment_fits = omega (arith, signs.1)

  usable_small : usable s r ≤ 2 ^ 24
  usable_small = omega (arith, g.peb_to)

  pub bytes_some : 1 ≤ bytes_reserved s r
  bytes_some = omega (arith, mul-le 1 1 r.reserved (usable s r) (reserved_some s r sound) (usable_some s r sound))

  bytes_below : bytes_reserved s r ≤ 2 ^ 31 * 2 ^ 24
  bytes_below = mul-le r.reserved (usable s r) (2 ^ 31) (2 ^ 24) (omega (arith, signs.0)) usable_small

  pub bytes_fit : bytes_reserved s r ≤ most_bytes
  bytes_fit = omega (arith, bytes_below)
