-- Numbers in decimal digits: a line may end with them, and they are read as the number.
use Rattle.ubi_config.proofs.Prelude.{◌≡◌, ◌<◌, ◌≤◌, ◌-◌, ◌^◌, ℕ, Bool, true, false, not, arith, get_or, length, refl, rules, ◌==◌, Some, list_any, nat_le, nat_tests, position_or_len, is_space, is_number, number_within, plain_value, size_of, trimmed, unit_of, value_of, ◌&&◌, ◌||◌, ◌*◌, suc, zero, decimal_digit, decimal_nonempty, digits_decimal, digits_value-decimal, first_decimal, length-decimal-le, drop_all, take_all, list_any_none, AllPass-from_list_all, position_or_len_is, IsNumeralModel, numerals_by_fold, decimal, fold, is_ascii_digit, before_first, list_all, is_mark, is_quote, is_no_digit, most_bytes, decimal_value, with_digit}
use Rattle.ubi_config.proofs.Framed.{IsFramed, trimmed_stays}

-- the words of this crate for digits and their number
pub own : IsNumeralModel (λ ds. list_all is_ascii_digit ds ≡ true) decimal_value
own = numerals_by_fold _ (search rules) (λ n ds. fold with_digit n ds) (search rules)

in_range : (b : ℕ) → is_ascii_digit b ≡ true → (48 ≤ b) × (b ≤ 57)
in_range b h = grind (arith, nat_tests)

and_false : (a : Bool) → (a && false) ≡ false
and_false true = refl
and_false false = refl

pub visible : (b : ℕ) → is_ascii_digit b ≡ true → is_space b ≡ false
visible b h =
    let r = in_range b h in
    let space : (b == 32) ≡ false = grind (arith, nat_tests) in
    let late : nat_le b 13 ≡ false = grind (arith, nat_tests) in
    let both : (nat_le 9 b && false) ≡ false = and_false (nat_le 9 b) in
    rw (space, late) both

pub other : (b c : ℕ) → is_ascii_digit b ≡ true → c < 48 → (b == c) ≡ false
other b c h below = let r = in_range b h in grind (arith, nat_tests)

pub above : (b c : ℕ) → is_ascii_digit b ≡ true → 57 < c → (b == c) ≡ false
above b c h more = let r = in_range b h in grind (arith, nat_tests)

or_true : (a : Bool) → (a || true) ≡ true
or_true true = refl
or_true false = refl

-- no digits begin with one that says nothing
well_started : (n : ℕ) → n < 2 ^ 64 → ((length (decimal n) == 1) || not (get_or (decimal n) 0 0 == 48)) ≡ true
well_started zero small = rw (decimal_digit 0 (omega arith)) refl
well_started (suc n) small =
    let high = first_decimal (suc n) (omega arith) small in
    let differs : (get_or (decimal (suc n)) 0 0 == 48) ≡ false = grind (arith, nat_tests) in
    rw differs (or_true (length (decimal (suc n)) == 1))

module _ (n : ℕ) (small : n < 2 ^ 64) where
  all_digits : list_all is_ascii_digit (decimal n) ≡ true
  all_digits = digits_decimal own n small

  some : 0 < length (decimal n)
  some = decimal_nonempty n small

  digit_at : (i : ℕ) → i < length (decimal n) → is_ascii_digit (get_or (decimal n) i 0) ≡ true
  digit_at i within = AllPass-from_list_all is_ascii_digit (decimal n) all_digits i 0 within

  -- no digit of them passes a test that no digit passes
  pub none_is : (p : ℕ → Bool) → ((b : ℕ) → is_ascii_digit b ≡ true → p b ≡ false) → list_any p (decimal n) ≡ false
  none_is p apart =
      list_any_none p (decimal n)
      (λ k d within. apart _ (AllPass-from_list_all is_ascii_digit (decimal n) all_digits k d within))

  last_place : length (decimal n) - 1 < length (decimal n)
  last_place = omega (arith, some)

  pub digits_short : length (decimal n) ≤ 20
  digits_short = length-decimal-le 20 n (omega arith) (omega (arith, small)) small

  -- digits are a line
  pub digits_framed : IsFramed (decimal n)
  digits_framed = record {
    some = some;
    short = omega (arith, digits_short);
    first = visible (get_or (decimal n) 0 0) (digit_at 0 some);
    last = visible (get_or (decimal n) (length (decimal n) - 1) 0) (digit_at (length (decimal n) - 1) last_place);
    slash = above (get_or (decimal n) (length (decimal n) - 1) 0) 92 (digit_at (length (decimal n) - 1) last_place)
        (omega arith);
    zero = none_is (λ b. b == 0) (λ b h. other b 0 h (omega arith));
  }

  -- no byte of them is another
  pub digits_without : (c : ℕ) → c < 48 → list_any (λ b. b == c) (decimal n) ≡ false
  digits_without c below = none_is (λ b. b == c) (λ b h. other b c h below)

  value_is : decimal_value (decimal n) ≡ n
  value_is = digits_value-decimal own n small

  pub digits_trimmed : trimmed (decimal n) ≡ decimal n
  digits_trimmed = trimmed_stays (decimal n) digits_framed.first digits_framed.last

  no_quote : is_quote (get_or (decimal n) 0 0) ≡ false
  no_quote =
      let first = digit_at 0 some in
      rw (other (get_or (decimal n) 0 0) 34 first (omega arith), other (get_or (decimal n) 0 0) 39 first (omega arith)) refl

  no_mark : position_or_len is_mark (decimal n) ≡ length (decimal n)
  no_mark =
      position_or_len_is is_mark (decimal n) (length (decimal n)) 0 (omega arith)
      (λ k within. let d = digit_at k within in
      rw (other (get_or (decimal n) k 0) 35 d (omega arith), above (get_or (decimal n) k 0) 59 d (omega arith)) refl)
      (λ within. absurd (omega arith))

  unmarked : before_first is_mark (decimal n) ≡ decimal n
  unmarked = rw no_mark (take_all (length (decimal n)) (decimal n) (omega arith))

  -- digits are a value as they stand
  pub digits_value : value_of (decimal n) ≡ Some (decimal n)
  unfolding value_of plain_value
  digits_value =
      let there : nat_le 1 (length (decimal n)) ≡ true = grind (arith, nat_tests, some) in
      rw (there, no_quote, unmarked, digits_trimmed, there) refl

  starts_well : ((length (decimal n) == 1) || not (get_or (decimal n) 0 0 == 48)) ≡ true
  starts_well = well_started n small

  -- and are read as the number
  pub digits_number : (most : ℕ) → n ≤ most → number_within most (decimal n) ≡ Some n
  unfolding number_within is_number
  digits_number most within =
      let there : nat_le 1 (length (decimal n)) ≡ true = grind (arith, nat_tests, some) in
      let fits : nat_le n most ≡ true = grind (arith, nat_tests, within) in
      rw (there, starts_well, all_digits, value_is) (rw fits refl)

  all_read : position_or_len is_no_digit (decimal n) ≡ length (decimal n)
  all_read =
      position_or_len_is is_no_digit (decimal n) (length (decimal n)) 0 (omega arith)
      (λ k within. rw (digit_at k within) refl) (λ within. absurd (omega arith))

  -- as a size too
  pub digits_size : 1 ≤ n → n ≤ most_bytes → size_of (decimal n) ≡ Some n
  unfolding size_of unit_of
  digits_size one within =
      let low : nat_le 1 n ≡ true = grind (arith, nat_tests, one) in
      let high : nat_le n most_bytes ≡ true = grind (arith, nat_tests, within) in
      rw (all_read, take_all (length (decimal n)) (decimal n) (omega arith), drop_all (length (decimal n)) (decimal n) (omega arith))
      (rw (digits_number most_bytes within) (let single : n * 1 ≡ n = omega arith in rw single (rw (low, high) refl)))
