-- Which files are opened to be read at places.
use Rattle.ubi_files.proofs.Prelude.{◌≡◌, ◌≢◌, ◌≤◌, ℕ, List, [], ◌∷◌, arith, length, refl, true, false, Bool, ForSome, IfSome, None, Option, Some}

no_bytes : (all : List ℕ) → length all ≤ 0 → all ≡ []
no_bytes [] few = refl
no_bytes (x ∷ xs) few = absurd (omega arith)

-- one that has none is empty
pub few_bytes : (A : List ℕ → Type 0) (told held : Option (List ℕ)) (len : ℕ) → told ≡ held → ForSome told (λ all. length all ≡ len) → len ≤ 0
    → IfSome held (λ all. all ≢ [] → A all)
few_bytes A told None len same sized few = tt
few_bytes A told (Some all) len same sized few = λ some. absurd (some (no_bytes all (let long = sized all same in omega arith)))

-- one that can be opened is
pub was_opened : (A : List ℕ → Type 0) (opens : Bool) (held : Option (List ℕ)) → opens ≡ true → opens ≡ false
    → IfSome held (λ all. all ≢ [] → A all)
was_opened A opens None known none = tt
was_opened A opens (Some all) known none = absurd cc

-- one that fits, and is never opened so, isn't there
pub never_opened : (held : Option (List ℕ)) (fits : List ℕ → Type 0) (A : List ℕ → Type 0) → IfSome held (λ all. all ≢ [] → fits all → ⊥)
    → IfSome held (λ all. all ≢ [] → fits all → A all)
never_opened None fits A never = tt
never_opened (Some all) fits A never = λ some fit. absurd (never some fit)
