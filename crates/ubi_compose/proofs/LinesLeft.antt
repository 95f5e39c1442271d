-- The first line with a cause, read from the lines that are left.
use Rattle.ubi_compose.proofs.Prelude.{◌≡◌, ℕ, ◌+◌, List, [], ◌∷◌, ◌++◌, length, take, refl, ap, sym, ◌∙◌, arith, append_assoc, Option, None, option_map, enumerate_from, option_or, length_push, take_at, Sizes, cause_at, cause_of, first_cause, first_some, line_number, lines, SpecCause}
use Rattle.std.specs.Prelude.{map}

-- the first of the lines that are left that has a cause, after those before
abbrev pub first_left : Sizes → List (List ℕ) → List (List ℕ) → Option (ℕ × SpecCause)
first_left s before [] = None
first_left s before (text ∷ rest) =
    option_or (option_map (λ c. (line_number (length before), c)) (cause_of s before text))
    (first_left s (before ++ text ∷ []) rest)

left_is : (s : Sizes) (before rest all : List (List ℕ)) (n : ℕ) → before ++ rest ≡ all → n ≡ length before
    → first_some (map (cause_at s all) (enumerate_from n rest)) ≡ first_left s before rest
left_is s before [] all n e h = refl
left_is s before (text ∷ rest) all n e h =
    let cut : take n all ≡ before = ap (take n) (sym e) ∙ take_at before (text ∷ rest) n (sym h) in
    let more = left_is s (before ++ text ∷ []) rest all (n + 1) (append_assoc before (text ∷ []) rest ∙ e)
    (omega (arith, length_push before text)) in
    ap (λ b. option_or (option_map (λ c. (line_number n, c)) (cause_of s b text))
    (first_some (map (cause_at s all) (enumerate_from (n + 1) rest)))) cut
    ∙ ap (λ m. option_or (option_map (λ c. (line_number m, c)) (cause_of s before text))
    (first_some (map (cause_at s all) (enumerate_from (n + 1) rest)))) h
    ∙ ap (option_or (option_map (λ c. (line_number (length before), c)) (cause_of s before text))) more

pub first_from_start : (s : Sizes) (text : List ℕ) → first_cause s text ≡ first_left s [] (lines text)
unfolding first_cause
first_from_start s text = left_is s [] (lines text) (lines text) 0 refl refl
