-- Values in quotes: a line may end with them, and they are read as what stands between the quotes.
use Rattle.ubi_config.proofs.Prelude.{◌≡◌, ◌≤◌, ℕ, Bool, true, false, not, List, [], ◌∷◌, ◌++◌, arith, length, refl, ◌∙◌, ◌==◌, Some, list_any, list_any-append, nat_le, nat_tests, position, position_or_len, is_space, quoted_value, trimmed, value_of, if◌then◌else◌, length-append, nat_lt, drop-append-add, take-append_seam, and_parts, is_quotable, is_quote, is_no_value, is_writable, longest_value, quote_of, quoted}
use Rattle.ubi_config.proofs.Distinct.{or_false}
use Rattle.ubi_config.proofs.Framed.{IsFramed, framed_behind, trimmed_stays}

not_true : (b : Bool) → not b ≡ true → b ≡ false
not_true false h = refl
not_true true h = absurd (cc)

-- what may be written
pub record CanWrite (value : List ℕ) : Type 0 where
  pub quotable : is_quotable value ≡ true
  pub short : length value ≤ longest_value
  pub plain : list_any is_no_value value ≡ false
  pub apart : list_any (λ b. b == quote_of value) value ≡ false

pub can_write : (value : List ℕ) → is_writable value ≡ true → CanWrite value
can_write value h =
    let last = and_parts _ _ h in
    let third = and_parts _ _ last.0 in
    let second = and_parts _ _ third.0 in
    record {
      quotable = second.0;
      short = grind (arith, nat_tests, second.1);
      plain = not_true (list_any is_no_value value) third.1;
      apart = not_true (list_any (λ b. b == quote_of value) value) last.1;
    }

-- the first place of a byte that ends bytes without it
pub place_behind : (p : ℕ → Bool) (xs : List ℕ) (y : ℕ) (ys : List ℕ) → list_any p xs ≡ false → p y ≡ true
    → position_or_len p (xs ++ y ∷ ys) ≡ length xs
place_behind p [] y ys none here = rw here refl
place_behind p (x ∷ xs) y ys none here =
    let both = or_false (p x) (list_any p xs) none in
    rw both.0 (omega (arith, place_behind p xs y ys both.1 here))

pub position_behind : (p : ℕ → Bool) (xs : List ℕ) (y : ℕ) (ys : List ℕ) → list_any p xs ≡ false → p y ≡ true
    → position p (xs ++ y ∷ ys) ≡ Some (length xs)
position_behind p xs y ys none here =
    let within : nat_lt (length xs) (length (xs ++ y ∷ ys)) ≡ true =
    grind (arith, nat_tests, length-append xs (y ∷ ys)) in
    rw (place_behind p xs y ys none here) (rw within refl)

by_test : (p : ℕ → Bool) (b : Bool) → p 34 ≡ b → p 39 ≡ b → (test : Bool) → p (if test then 39 else 34) ≡ b
by_test p b double single true = single
by_test p b double single false = double

-- what holds of both quotes, holds of that of a value
of_quotes : (p : ℕ → Bool) (b : Bool) → p 34 ≡ b → p 39 ≡ b → (value : List ℕ) → p (quote_of value) ≡ b
of_quotes p b double single value = by_test p b double single (list_any (λ b. b == 34) value)

is_same : (q : ℕ) → (q == q) ≡ true
is_same q = grind (arith, nat_tests)

-- no byte of some is one of fewer
fewer : (p q : ℕ → Bool) → ((b : ℕ) → p b ≡ false → q b ≡ false) → (xs : List ℕ) → list_any p xs ≡ false
    → list_any q xs ≡ false
fewer p q less [] h = refl
fewer p q less (x ∷ xs) h =
    let both = or_false (p x) (list_any p xs) h in
    rw (less x both.0) (fewer p q less xs both.1)

module _ (value : List ℕ) (w : CanWrite value) where
  quote : ℕ
  quote = quote_of value

  no_zero : list_any (λ b. b == 0) value ≡ false
  no_zero = fewer is_no_value (λ b. b == 0) (λ b h. (or_false (b == 0) (b == 10) h).0) value w.plain

  no_break : list_any (λ b. b == 10) value ≡ false
  no_break = fewer is_no_value (λ b. b == 10) (λ b h. (or_false (b == 0) (b == 10) h).1) value w.plain

  shut : IsFramed (quote_of value ∷ [])
  shut = record {
    some = omega arith;
    short = omega arith;
    first = of_quotes is_space false refl refl value;
    last = of_quotes is_space false refl refl value;
    slash = of_quotes (λ b. b == 92) false refl refl value;
    zero = rw (of_quotes (λ b. b == 0) false refl refl value) refl;
  }

  -- a value in quotes is a line
  pub quoted_framed : IsFramed (quoted value)
  quoted_framed =
      framed_behind (quote_of value ∷ value) (quote_of value ∷ []) (omega arith)
      (of_quotes is_space false refl refl value)
      (rw (of_quotes (λ b. b == 0) false refl refl value) no_zero)
      (omega (arith, w.short)) shut

  pub quoted_unbroken : list_any (λ b. b == 10) (quoted value) ≡ false
  quoted_unbroken =
      list_any-append (λ b. b == 10) (quote_of value ∷ value) (quote_of value ∷ [])
      ∙ rw (of_quotes (λ b. b == 10) false refl refl value, no_break) refl

  pub quoted_trimmed : trimmed (quoted value) ≡ quoted value
  quoted_trimmed = trimmed_stays (quoted value) quoted_framed.first quoted_framed.last

  -- it is read as the value
  pub quoted_read : value_of (quoted value) ≡ Some value
  unfolding value_of quoted_value trimmed
  quoted_read =
      let there : nat_le 1 (length (quoted value)) ≡ true = grind (arith, nat_tests) in
      let found = position_behind (λ b. b == quote_of value) value (quote_of value) [] w.apart (is_same (quote_of value)) in
      rw there
      (rw (of_quotes is_quote true refl refl value)
      (rw found
      (rw (take-append_seam value (quote_of value ∷ []), drop-append-add value (quote_of value ∷ []) 1)
      (rw w.quotable refl))))
