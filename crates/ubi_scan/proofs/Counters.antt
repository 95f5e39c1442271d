-- Erase counters that were read, and their mean: none is above the greatest one.
use Rattle.ubi_scan.proofs.Prelude.{◌≡◌, ℕ, ◌*◌, ◌/◌, ◌≤◌, Bool, true, false, cond, List, sym, subst, arith, div-le_of_le-mul, ec_reading, Sizes, EcHeader, EcRead, counter_within, ec_is_of, CounterFits}
use Rattle.std.specs.Prelude.{◌==◌}
use Rattle.ubi_media.specs.Ec as ec_rules
use Rattle.ubi_media.specs.declared.ec.EcRead.TheVariants as ec_read

-- a Valid header's counter has 31 bits
pub valid_counter : (s : Sizes) (bytes : List ℕ) (e : EcHeader) → ec_reading s bytes ≡ ec_read.Valid e
    → e.counter ≤ 0x7FFFFFFF
valid_counter s bytes e reads =
    let is = ec_is_of s bytes (ec_read.Valid e) (sym reads) in
    subst (λ (h : EcHeader). h.counter ≤ 0x7FFFFFFF) (sym is.2) (counter_within s (ec_rules.ec_fields bytes) is.1)

-- whatever was read
pub counter_fits : (s : Sizes) (bytes : List ℕ) (r : EcRead) → ec_reading s bytes ≡ r → CounterFits r
counter_fits s bytes ec_read.Blank e = tt
counter_fits s bytes ec_read.Corrupt e = tt
counter_fits s bytes (ec_read.Fault f) e = tt
counter_fits s bytes (ec_read.Valid h) e = valid_counter s bytes h e

-- nor is the mean of n of them
pub mean_fits : (n total : ℕ) → total ≤ n * 0x7FFFFFFF → cond (n == 0) 0 (total / n) ≤ 0x7FFFFFFF
mean_fits n total few = by_test (n == 0)
  where
    by_test : (b : Bool) → cond b 0 (total / n) ≤ 0x7FFFFFFF
    by_test true = omega arith
    by_test false = div-le_of_le-mul n few
