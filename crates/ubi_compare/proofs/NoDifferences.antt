-- Lists of differences that are empty.
use Rattle.ubi_compare.proofs.Prelude.{◌≡◌, ℕ, zero, suc, ◌+◌, ◌<◌, ◌≤◌, Bool, true, false, cond, inl, inr, List, [], ◌∷◌, ◌++◌, length, map, refl, ap, sym, ◌∙◌, subst, arith, ◌==◌, false≢true, cases_lt, unsigned_Decides, range_with_len, filter, flat_map, None, Some, if◌then◌else◌, ranges_after, unless, Difference}

pub unless_none : (same : Bool) (d : Difference) → unless same d ≡ [] → same ≡ true
unless_none true d none = refl
unless_none false d none = absurd (cc)

pub none_unless : (same : Bool) (d : Difference) → same ≡ true → unless same d ≡ []
none_unless true d is = refl
none_unless false d is = absurd (false≢true is)

-- what is chosen by a test
pub chosen : {A : Type 0} (test : Bool) (x y : A) → test ≡ true → (if test then x else y) ≡ x
chosen true x y is = refl
chosen false x y is = absurd (false≢true is)

pub not_chosen : {A : Type 0} (test : Bool) (x y : A) → test ≡ false → (if test then x else y) ≡ y
not_chosen true x y is = absurd (false≢true (sym is))
not_chosen false x y is = refl

pub both_none : {A : Type 0} (xs ys : List A) → xs ++ ys ≡ [] → (xs ≡ []) × (ys ≡ [])
both_none [] ys none = (refl, none)
both_none (x ∷ xs) ys none = absurd (cc)

pub none_both : {A : Type 0} (xs ys : List A) → xs ≡ [] → ys ≡ [] → xs ++ ys ≡ []
none_both xs ys one other = ap (λ zs. zs ++ ys) one ∙ other

pub map_none : {A B : Type 0} (f : A → B) (xs : List A) → map f xs ≡ [] → xs ≡ []
map_none f [] none = refl
map_none f (x ∷ xs) none = absurd (cc)

-- nothing is told of any number of a range
pub none_told : {A : Type 0} (f : ℕ → List A) (a n : ℕ) → flat_map f (range_with_len a n) ≡ []
    → (k : ℕ) → a ≤ k → k < a + n → f k ≡ []
none_told f a zero none k low high = absurd (omega arith)
none_told f a (suc n) none k low high =
    let parts = both_none (f a) (flat_map f (range_with_len (a + 1) n)) none in elim (cases_lt a k) [
      | inl above ↦ none_told f (a + 1) n parts.1 k (omega arith) (omega arith)
      | inr below ↦ let at : a ≡ k = omega arith in subst (λ i. f i ≡ []) at parts.0
    ]

pub told_none : {A : Type 0} (f : ℕ → List A) (a n : ℕ) → ((k : ℕ) → a ≤ k → k < a + n → f k ≡ [])
    → flat_map f (range_with_len a n) ≡ []
told_none f a zero each = refl
told_none f a (suc n) each =
    none_both (f a) (flat_map f (range_with_len (a + 1) n)) (each a (omega arith) (omega arith))
    (told_none f (a + 1) n (λ k low high. each k (omega arith) (omega arith)))

dropped : {A : Type 0} (test : Bool) (x : A) (xs : List A) → cond test (x ∷ xs) xs ≡ [] → (test ≡ false) × (xs ≡ [])
dropped true x xs none = absurd (cc)
dropped false x xs none = (refl, none)

-- no number of a range passes
pub none_pass : (test : ℕ → Bool) (a n : ℕ) → filter test (range_with_len a n) ≡ []
    → (k : ℕ) → a ≤ k → k < a + n → test k ≡ false
none_pass test a zero none k low high = absurd (omega arith)
none_pass test a (suc n) none k low high =
    let parts = dropped (test a) a (filter test (range_with_len (a + 1) n)) none in elim (cases_lt a k) [
      | inl above ↦ none_pass test (a + 1) n parts.1 k (omega arith) (omega arith)
      | inr below ↦ let at : a ≡ k = omega arith in subst (λ i. test i ≡ false) at parts.0
    ]

kept_none : {A : Type 0} (test : Bool) (x : A) (xs : List A) → test ≡ false → xs ≡ [] → cond test (x ∷ xs) xs ≡ []
kept_none true x xs fails none = absurd (false≢true (sym fails))
kept_none false x xs fails none = none

pub pass_none : (test : ℕ → Bool) (a n : ℕ) → ((k : ℕ) → a ≤ k → k < a + n → test k ≡ false)
    → filter test (range_with_len a n) ≡ []
pass_none test a zero fails = refl
pass_none test a (suc n) fails =
    kept_none (test a) a (filter test (range_with_len (a + 1) n)) (fails a (omega arith) (omega arith))
    (pass_none test (a + 1) n (λ k low high. fails k (omega arith) (omega arith)))

begun_if : (next : Bool) (r : ℕ × ℕ) (xs ys : List (ℕ × ℕ)) → (xs ≡ [] → ⊥) → (if next then xs else r ∷ ys) ≡ [] → ⊥
begun_if true r xs ys some none = some none
begun_if false r xs ys some none = cc

pub range_begun : (r : ℕ × ℕ) (ns : List ℕ) → ranges_after (Some r) ns ≡ [] → ⊥
range_begun r [] none = cc
range_begun r (n ∷ ns) none =
    begun_if (n == r.1 + 1) r (ranges_after (Some (r.0, n)) ns) (ranges_after (Some (n, n)) ns) (range_begun (r.0, n) ns) none

-- there is no range of no number
pub ranges_none : (ns : List ℕ) → ranges_after None ns ≡ [] → ns ≡ []
ranges_none [] none = refl
ranges_none (n ∷ ns) none = absurd (range_begun (n, n) ns none)

-- whether a list is empty
pub is_none : {A : Type 0} (xs : List A) → (length xs == 0) ≡ true → xs ≡ []
is_none [] none = refl
is_none (x ∷ xs) none = let none : length (x ∷ xs) ≡ 0 = (unsigned_Decides (length (x ∷ xs)) 0).0 none in absurd (omega arith)

pub is_empty : {A : Type 0} (xs : List A) → xs ≡ [] → (length xs == 0) ≡ true
is_empty xs none = ap (λ ys. length ys == 0) none ∙ (unsigned_Decides 0 0).1 refl
