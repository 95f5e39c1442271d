-- Volumes with different numbers have sections with different names.
use Rattle.ubi_config.proofs.Prelude.{◌≡◌, ◌<◌, ◌^◌, ℕ, Bool, true, false, List, [], ◌∷◌, ◌++◌, arith, refl, sym, ap, ◌∙◌, ◌==◌, codes, drop, nat_tests, ◌&&◌, decimal_injective, digits_decimal, is_ascii_digit, to_ascii_lowercase, same_text, list_all, decimal, str_eq_ignore_ascii_case, str_to_ascii_lowercase, title}
use Rattle.ubi_config.proofs.Digits.{own}

digit_small : (b : ℕ) → is_ascii_digit b ≡ true → to_ascii_lowercase b ≡ b
digit_small b h = grind (arith, nat_tests)

both : (a b : Bool) → (a && b) ≡ true → (a ≡ true) × (b ≡ true)
both true true h = (refl, refl)
both true false h = absurd (cc)
both false b h = absurd (cc)

small_letters : (ds : List ℕ) → list_all is_ascii_digit ds ≡ true → str_to_ascii_lowercase ds ≡ ds
small_letters [] h = refl
small_letters (d ∷ ds) h =
    let parts = both (is_ascii_digit d) (list_all is_ascii_digit ds) h in
    rw (digit_small d parts.0) (ap (λ xs. d ∷ xs) (small_letters ds parts.1))

-- the name of a section has small letters and digits
title_small : (id : ℕ) → id < 2 ^ 64 → str_to_ascii_lowercase (title id) ≡ title id
title_small id small = ap (λ ds. codes "volume-" ++ ds) (small_letters (decimal id) (digits_decimal own id small))

same_title : (i j : ℕ) → title i ≡ title j → decimal i ≡ decimal j
same_title i j h = ap (drop 7) h

by_test : (i j : ℕ) (same : Bool) → i < 2 ^ 64 → j < 2 ^ 64 → (i == j) ≡ false
    → str_eq_ignore_ascii_case (title i) (title j) ≡ same → same ≡ false
by_test i j false small_i small_j apart h = refl
by_test i j true small_i small_j apart h =
    let texts = same_text (str_to_ascii_lowercase (title i)) (str_to_ascii_lowercase (title j)) (sym h) in
    let titles : title i ≡ title j = sym (title_small i small_i) ∙ texts ∙ title_small j small_j in
    let numbers = decimal_injective i j small_i small_j (same_title i j titles) in
    absurd (grind (arith, nat_tests))

pub titles_apart : (i j : ℕ) → i < 2 ^ 64 → j < 2 ^ 64 → (i == j) ≡ false
    → str_eq_ignore_ascii_case (title i) (title j) ≡ false
titles_apart i j small_i small_j apart =
    by_test i j (str_eq_ignore_ascii_case (title i) (title j)) small_i small_j apart refl
