-- The first line with a cause, read from the lines that are left.
use Rattle.ubi_config.proofs.Prelude.{◌≡◌, ℕ, ◌+◌, List, [], ◌∷◌, ◌++◌, length, take, refl, ap, sym, ◌∙◌, arith, append_assoc, Option, None, map, option_map, enumerate_from, option_or, length_push, take_at, first_some, Fault, cause_after, cause_at, line_at, line_fault, line_number, lines, sayings}

-- the number and the cause of a line after those before it
abbrev pub next_cause : List (List ℕ) → List ℕ → Option Fault
next_cause before text =
    option_map (λ c. (line_number (length before), c)) (cause_after (sayings before) (line_at (length before, text)))

-- the first of the lines that are left that has a cause, after those before
abbrev pub first_left : List (List ℕ) → List (List ℕ) → Option Fault
first_left before [] = None
first_left before (text ∷ rest) = option_or (next_cause before text) (first_left (before ++ text ∷ []) rest)

cause_is : (before all : List (List ℕ)) (text : List ℕ) (n : ℕ) → take n all ≡ before → n ≡ length before
    → cause_at all (n, text) ≡ next_cause before text
unfolding cause_at
cause_is before all text n cut h =
    ap (λ b. option_map (λ c. (line_number n, c)) (cause_after (sayings b) (line_at (n, text)))) cut
    ∙ ap (λ m. option_map (λ c. (line_number m, c)) (cause_after (sayings before) (line_at (m, text)))) h

left_is : (before rest all : List (List ℕ)) (n : ℕ) → before ++ rest ≡ all → n ≡ length before
    → first_some (map (cause_at all) (enumerate_from n rest)) ≡ first_left before rest
left_is before [] all n e h = refl
left_is before (text ∷ rest) all n e h =
    let cut : take n all ≡ before = ap (take n) (sym e) ∙ take_at before (text ∷ rest) n (sym h) in
    let more = left_is (before ++ text ∷ []) rest all (n + 1) (append_assoc before (text ∷ []) rest ∙ e)
    (omega (arith, length_push before text)) in
    ap (λ o. option_or o (first_some (map (cause_at all) (enumerate_from (n + 1) rest))))
    (cause_is before all text n cut h)
    ∙ ap (option_or (next_cause before text)) more

pub first_from_start : (text : List ℕ) → line_fault text ≡ first_left [] (lines text)
unfolding line_fault
first_from_start text = left_is [] (lines text) (lines text) 0 refl refl
