-- The section of a volume gives back its record.
use Rattle.ubi_config.proofs.Prelude.{◌≡◌, ◌<◌, ◌≤◌, ◌^◌, ℕ, Bool, true, false, not, arith, refl, sym, ap, ◌∙◌, ◌==◌, Some, None, Ok, nat_tests, rec_fault, record_in, reserving, Sizes, VolKind, ◌&&◌, ◌*◌, ◌/◌, ◌%◌, nat_lt, mul-div_cancel, mul-mod_left, div_ceil, usable_some, slots, is_static, usable, VolumeRecord, blocks_for, fitting, bytes_reserved, SectionGivesRecord, section_for, ConfigVolume}
use Rattle.ubi_media.specs.declared.vid.VolKind.TheVariants as kind
use Rattle.ubi_config.proofs.CanSay.{reserved_few, reserved_some}
use Rattle.ubi_config.proofs.Reserved.{fault_reserving}

-- as many bytes as some eraseblocks have together need just these
whole : (n part : ℕ) → 1 ≤ part → div_ceil (n * part) part ≡ n
whole n part some =
    let times : n * part / part ≡ n = mul-div_cancel n (omega (arith, some)) in
    let rest : n * part % part ≡ 0 = mul-mod_left n part in
    omega (arith, times, rest)

no_and : (a : Bool) → (a && false) ≡ false
no_and true = refl
no_and false = refl

not_empty : (k : VolKind) (len : ℕ) → (k ≡ kind.Dynamic → 1 ≤ len) → ((len == 0) && not (is_static k)) ≡ false
not_empty kind.Static len h = no_and (len == 0)
not_empty kind.Dynamic len h = let one = h refl in let some : (len == 0) ≡ false = grind (arith, nat_tests) in rw some refl

module _ (s : Sizes) (n len : ℕ) (v : ConfigVolume) (sound : rec_fault s v.entry ≡ None)
    (unmarked : v.entry.marker ≡ false) where
  is_record : reserving (section_for s n v) v.entry.reserved ≡ v.entry
  is_record =
      ap (λ (m : Bool). record {
        reserved = v.entry.reserved;
        alignment = v.entry.alignment;
        kind = v.entry.kind;
        marker = m;
        name = v.entry.name;
        flags = v.entry.flags;
      }) (sym unmarked)

  some : 1 ≤ v.entry.reserved
  some = reserved_some s v.entry sound

  few : v.entry.reserved < 2 ^ 31
  few = reserved_few s v.entry sound

  no_fault : rec_fault s (reserving (section_for s n v) 1) ≡ None
  no_fault =
      sym (fault_reserving s (section_for s n v) v.entry.reserved some few)
      ∙ ap (rec_fault s) is_record ∙ sound

  blocks : blocks_for s (section_for s n v) (bytes_reserved s v.entry) ≡ v.entry.reserved
  blocks =
      let parts : div_ceil (v.entry.reserved * usable s v.entry) (usable s v.entry) ≡ v.entry.reserved =
      whole v.entry.reserved (usable s v.entry) (usable_some s v.entry sound) in
      omega (arith, parts, some)

  module _ (slot : v.id < slots s) (within : len ≤ bytes_reserved s v.entry)
      (there : v.entry.kind ≡ kind.Dynamic → 1 ≤ len) where
    fits : fitting s (section_for s n v) v.entry.reserved ≡ Ok v.entry
    fits =
        let small : nat_lt v.entry.reserved (2 ^ 31) ≡ true = grind (arith, nat_tests, few) in
        let placed : nat_lt v.id (slots s) ≡ true = grind (arith, nat_tests, slot) in
        rw (small, placed) (ap (λ (r : VolumeRecord). Ok r) is_record)

    given : record_in s (section_for s n v) (Some len) ≡ Ok v.entry
    unfolding record_in
    given =
        let long : nat_lt (bytes_reserved s v.entry) len ≡ false = grind (arith, nat_tests, within) in
        rw (not_empty v.entry.kind len there) (rw long (rw no_fault (rw blocks fits)))

pub section_gives_record : SectionGivesRecord
section_gives_record s n len v sound unmarked slot within there = given s n len v sound unmarked slot within there
