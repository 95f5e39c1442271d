-- Which element is the first of a list that passes a test.
use Rattle.std.specs.Prelude.{◌≡◌, Bool, true, false, All, List, ◌∷◌, ◌++◌, Option, Some, None}

-- the element passes, and none before it does; or none passes at all
abbrev pub IsFirst : {A : Type 0} → (A → Bool) → List A → Option A → Type 0
IsFirst passes xs None = All (λ x. passes x ≡ false) xs
IsFirst passes xs (Some x) =
    (before : List _) × (behind : List _) × (xs ≡ before ++ x ∷ behind) × (passes x ≡ true) × All (λ y. passes y ≡ false) before
