-- Numbers with units: a unit is some bytes, so a number of units is no less than the number.
use Rattle.ubi_writing.proofs.Prelude.{◌≡◌, ℕ, ◌≤◌, ◌<◌, ◌*◌, ◌==◌, Bool, List, Some, true, false, arith, refl, IfSome, codes, if◌then◌else◌, length, option_and_then, option_map, then_some, at_most, unit_after, unit_named, None, mul-le-mul_left, nat_tests, nat_le, same_bytes, Option}
use Rattle.ubi_writing.proofs.Hexadecimals.{none_beyond}

pub named_unit_some : (name : List ℕ) → IfSome (unit_named name) (λ unit. 1 ≤ unit)
unfolding unit_named
named_unit_some name = go (same_bytes name (codes "KiB")) (same_bytes name (codes "MiB")) (same_bytes name (codes "GiB"))
  where
    go : (k m g : Bool)
        → IfSome (if k then Some 1024 else (if m then Some 1048576 else (if g then Some 1073741824 else None))) (λ unit. 1 ≤ unit)
    go true m g = omega arith
    go false true g = omega arith
    go false false true = omega arith
    go false false false = tt

pub unit_some : (rest : List ℕ) → IfSome (unit_after rest) (λ unit. 1 ≤ unit)
unit_some rest = go (length rest == 0)
  where
    go : (b : Bool) → IfSome (if b then Some 1 else unit_named rest) (λ unit. 1 ≤ unit)
    go true = omega arith
    go false = named_unit_some rest

above : (largest n : ℕ) → None ≡ at_most largest (Some n) → largest < n
above largest n none = go (nat_le n largest) refl none
  where
    go : (b : Bool) → nat_le n largest ≡ b → None ≡ then_some b n → largest < n
    go true is none = absurd (cc)
    go false is none = grind (arith, nat_tests)

no_less : (n unit : ℕ) → 1 ≤ unit → n ≤ n * unit
no_less n unit some = omega (arith, mul-le-mul_left n some)

-- of a number above the largest
pub units_above : (largest : ℕ) (number unit : Option ℕ) → IfSome unit (λ u. 1 ≤ u) → None ≡ at_most largest number
    → None ≡ at_most largest (option_and_then (λ n. option_map (λ u. n * u) unit) number)
units_above largest None unit some none = refl
units_above largest (Some n) None some none = refl
units_above largest (Some n) (Some u) some none =
    let more = above largest n none in
    let least = no_less n u some in
    none_beyond true largest (n * u) (omega (arith, more, least))
