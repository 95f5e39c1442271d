-- Hexadecimal digits: another one never makes the number less. And numbers that are larger than they may be.
use Rattle.ubi_writing.proofs.Prelude.{◌≡◌, ℕ, ◌≤◌, ◌<◌, ◌+◌, ◌*◌, List, [], ◌∷◌, Bool, Some, true, false, arith, refl, drop, fold, length, get_or, then_some, at_most, with_hexadecimal, None, nat_tests, at_drop_more, digit_value}

pub fold_grows : (n : ℕ) (digits : List ℕ) → n ≤ fold with_hexadecimal n digits
fold_grows n [] = omega arith
fold_grows n (b ∷ digits) = omega (arith, fold_grows (n * 16 + digit_value b) digits)

pub fold_beyond : (largest n i d : ℕ) (digits : List ℕ) → i < length digits
    → largest < n * 16 + digit_value (get_or digits i d)
    → largest < fold with_hexadecimal n (drop i digits)
fold_beyond largest n i d digits h more =
    let e = at_drop_more (fold with_hexadecimal n) digits i d h in
    rw e (omega (arith, fold_grows (n * 16 + digit_value (get_or digits i d)) (drop (i + 1) digits)))

-- a number above the largest is none
pub none_above : (largest n : ℕ) → largest < n → at_most largest (Some n) ≡ None
none_above largest n h = grind (arith, nat_tests)

pub none_beyond : (ok : Bool) (largest n : ℕ) → largest < n → None ≡ at_most largest (then_some ok n)
none_beyond true largest n h = grind (arith, nat_tests)
none_beyond false largest n h = refl
