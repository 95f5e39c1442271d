-- How many eraseblocks a volume reserves changes no fault of its record, as long as there are some and not too many.
use Rattle.ubi_config.proofs.Prelude.{◌≡◌, ◌<◌, ◌≤◌, ℕ, ◌^◌, false, refl, arith, ◌==◌, nat_tests, Sizes, breaks, fields_from, rec_fault, is_negative, reserving, Section, first_fault}

same_fault : (s : Sizes) (section : Section) (n : ℕ) → (n == 0) ≡ false → is_negative n ≡ false
    → rec_fault s (reserving section n) ≡ rec_fault s (reserving section 1)
unfolding first_fault breaks fields_from
same_fault s section n some small = rw (some, small) refl

pub fault_reserving : (s : Sizes) (section : Section) (n : ℕ) → 1 ≤ n → n < 2 ^ 31
    → rec_fault s (reserving section n) ≡ rec_fault s (reserving section 1)
fault_reserving s section n some small =
    same_fault s section n (grind (arith, nat_tests)) (grind (arith, nat_tests))
