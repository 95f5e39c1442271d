-- Bytes that are cut at the first byte that passes a test.
use Rattle.std.proofs.Common.{◌≡◌, ℕ, ◌+◌, ◌-◌, ◌<◌, Bool, true, false, cond, List, [], ◌∷◌, length, take, drop, refl, ap, sym, ◌∙◌, arith}
use Rattle.std.proofs.lemmas.Bool.Decides.{nat_tests}
use Rattle.std.proofs.lemmas.List.{take_all}
use Rattle.std.proofs.lemmas.List.Splits.{slice_split_first, slice_split-cons_no}
use Rattle.std.specs.List.{onto_first, position, position_or_len, slice_split}
use Rattle.std.specs.Prelude.{not, nat_lt, Some, None}
use Rattle.std.proofs.lemmas.List.{length-drop}

uncut_here : (p : ℕ → Bool) (x : ℕ) (xs : List ℕ) (b : Bool) → p x ≡ b
    → (nat_lt (position_or_len p xs) (length xs) ≡ false → slice_split p xs ≡ xs ∷ [])
    → nat_lt (cond (not b) (1 + position_or_len p xs) 0) (1 + length xs) ≡ false
    → slice_split p (x ∷ xs) ≡ (x ∷ xs) ∷ []
uncut_here p x xs true e rest h = absurd (grind (arith, nat_tests))
uncut_here p x xs false e rest h =
    slice_split-cons_no p x xs e ∙ ap (onto_first x) (rest (grind (arith, nat_tests)))

uncut : (p : ℕ → Bool) (xs : List ℕ) → nat_lt (position_or_len p xs) (length xs) ≡ false → slice_split p xs ≡ xs ∷ []
uncut p [] h = refl
uncut p (x ∷ xs) h = uncut_here p x xs (p x) refl (uncut p xs) (grind (arith, nat_tests))

cond_none : (b : Bool) (n : ℕ) → cond b (Some n) None ≡ None → b ≡ false
cond_none true n h = absurd (cc)
cond_none false n h = refl

cond_some : (b : Bool) (n i : ℕ) → cond b (Some n) None ≡ Some i → (b ≡ true) × (n ≡ i)
cond_some true n i h = (refl, cc)
cond_some false n i h = absurd (cc)

pub cut_nowhere : (p : ℕ → Bool) (xs : List ℕ) → position p xs ≡ None → slice_split p xs ≡ xs ∷ []
cut_nowhere p xs h = uncut p xs (cond_none (nat_lt (position_or_len p xs) (length xs)) (position_or_len p xs) h)

-- what follows the place is all of what is left
rest_of : (xs : List ℕ) (i : ℕ) → take (length xs - i) (drop i xs) ≡ drop i xs
rest_of xs i = take_all (length xs - i) (drop i xs) (omega (arith, length-drop i xs))

pub cut_at : (p : ℕ → Bool) (xs : List ℕ) (i : ℕ) → position p xs ≡ Some i
    → slice_split p xs ≡ take i xs ∷ slice_split p (take (length xs - (i + 1)) (drop (i + 1) xs))
cut_at p xs i h =
    let found = cond_some (nat_lt (position_or_len p xs) (length xs)) (position_or_len p xs) i h in
    let within : position_or_len p xs < length xs = grind (arith, nat_tests) in
    slice_split_first p xs 0 within
    ∙ ap (λ n. take n xs ∷ slice_split p (drop (n + 1) xs)) found.1
    ∙ ap (λ rest. take i xs ∷ slice_split p rest) (sym (rest_of xs (i + 1)))
