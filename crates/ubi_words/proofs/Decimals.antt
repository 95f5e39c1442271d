-- Decimal digits: another one never makes the number less.
use Rattle.std.proofs.Common.{◌≡◌, ℕ, ◌≤◌, ◌<◌, ◌+◌, ◌*◌, ◌-◌, List, [], ◌∷◌, Bool, true, false, ◌&&◌, arith, refl, drop, length, get_or}
use Rattle.std.proofs.lemmas.Bool.Decides.{nat_tests}
use Rattle.std.proofs.lemmas.List.{at_drop_more}
use Rattle.std.specs.Bool.{then_some}
use Rattle.std.specs.Prelude.{fold, None, nat_le}
use Rattle.ubi_words.specs.Words.{with_digit}

pub fold_grows : (n : ℕ) (digits : List ℕ) → n ≤ fold with_digit n digits
fold_grows n [] = omega arith
fold_grows n (b ∷ digits) = omega (arith, fold_grows (n * 10 + (b - 48)) digits)

pub fold_beyond : (largest n i d : ℕ) (digits : List ℕ) → i < length digits
    → largest < n * 10 + (get_or digits i d - 48)
    → largest < fold with_digit n (drop i digits)
fold_beyond largest n i d digits h more =
    let e = at_drop_more (fold with_digit n) digits i d h in
    rw e (omega (arith, fold_grows (n * 10 + (get_or digits i d - 48)) (drop (i + 1) digits)))

pub none_beyond : (ok : Bool) (largest n : ℕ) → largest < n → None ≡ then_some (ok && nat_le n largest) n
none_beyond true largest n h = grind (arith, nat_tests)
none_beyond false largest n h = refl
