-- How many elements pass a test.
use Rattle.ubi_config.proofs.Prelude.{◌≡◌, ◌≤◌, ◌+◌, ℕ, Bool, true, false, List, [], ◌∷◌, ◌++◌, ◌||◌, arith, refl, cond, count_by, list_any, sum_by-append}
use Rattle.ubi_config.proofs.Distinct.{or_false}

pub count_both : {X : Type 0} (p : X → Bool) (xs ys : List X)
    → count_by p (xs ++ ys) ≡ count_by p xs + count_by p ys
count_both p xs ys = sum_by-append (λ x. cond (p x) 1 0) xs ys

pub count_more : {X : Type 0} (p : X → Bool) (xs : List X) (x : X)
    → count_by p (xs ++ x ∷ []) ≡ count_by p xs + cond (p x) 1 0
count_more p xs x = omega (arith, count_both p xs (x ∷ []))

pub count_cons : {X : Type 0} (p : X → Bool) (x : X) (xs : List X)
    → count_by p (x ∷ xs) ≡ cond (p x) 1 0 + count_by p xs
count_cons p x xs = omega (arith, count_both p (x ∷ []) xs)

one_or_none : (b : Bool) → b ≡ false → cond {A = ℕ} b 1 0 ≡ 0
one_or_none false h = refl
one_or_none true h = absurd (cc)

-- where none passes, none is counted
pub none_counted : {X : Type 0} (p : X → Bool) (xs : List X) → list_any p xs ≡ false → count_by p xs ≡ 0
none_counted p [] h = refl
none_counted p (x ∷ xs) h =
    let both = or_false (p x) (list_any p xs) h in
    omega (arith, count_cons p x xs, one_or_none (p x) both.0, none_counted p xs both.1)

some_first : (a b : Bool) (n : ℕ) → (a || b) ≡ true → (b ≡ true → 1 ≤ n) → 1 ≤ cond a 1 0 + n
some_first true b n h k = omega arith
some_first false b n h k = let more = k h in omega arith

-- where one passes, one is counted
pub some_counted : {X : Type 0} (p : X → Bool) (xs : List X) → list_any p xs ≡ true → 1 ≤ count_by p xs
some_counted p [] h = absurd (cc)
some_counted p (x ∷ xs) h =
    let first = some_first (p x) (list_any p xs) (count_by p xs) h (some_counted p xs) in
    omega (arith, count_cons p x xs, first)
