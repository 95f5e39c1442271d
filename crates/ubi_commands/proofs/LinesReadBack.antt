-- The printed lines of a plan are read as its steps.
use Rattle.ubi_commands.proofs.Prelude.{◌≡◌, ◌∙◌, ◌==◌, ◌&&◌, ◌<◌, ◌≤◌, ◌^◌, ℕ, zero, suc, Bool, true, false, not, List, [], ◌∷◌, ◌++◌, Some, ap, ap₂, append-nil, arith, codes, decimal, flat_map, length, list_all, map, nat_tests, refl, slice_get, sym, IsGeometry, Sizes, programmed, step_line, rules, is_ascii_digit, slice_split, filter_map, option_map, digits_decimal, digits_value-decimal, IsNumeralModel, numerals_by_fold, Lacks, after_first-at, before_first-at, slice_split-at, decimal_value, with_digit, FitsBlock, line_of, with_pages, target, rebuilt_within, step_words, LinesReadBack, behind, step_of_line, steps_read}
use Rattle.std.proofs.Common.{append_assoc}
use Rattle.ubi_change.specs.declared.step.Step.{Step}
use Rattle.std.proofs.Common.{fold}
use Rattle.ubi_change.specs.declared.step.Step.TheVariants as step

-- ---- the digits of a number
own : IsNumeralModel (λ ds. list_all is_ascii_digit ds ≡ true) decimal_value
own = numerals_by_fold _ (search rules) (λ n ds. fold with_digit n ds) (search rules)

-- each byte of a text is another one than c
abbrev apart : ℕ → List ℕ → Bool
apart c xs = list_all (λ b. not (b == c)) xs

digit_apart : (c b : ℕ) → c < 48 → is_ascii_digit b ≡ true → not (b == c) ≡ true
digit_apart c b low h = grind (arith, nat_tests)

head_true : (a b : Bool) → (a && b) ≡ true → a ≡ true
head_true true b h = refl
head_true false b h = absurd (cc)

tail_true : (a b : Bool) → (a && b) ≡ true → b ≡ true
tail_true true b h = h
tail_true false b h = absurd (cc)

digits_apart : (c : ℕ) → c < 48 → (ds ys : List ℕ) → list_all is_ascii_digit ds ≡ true → apart c ys ≡ true → apart c (ds ++ ys) ≡ true
digits_apart c low [] ys h rest = rest
digits_apart c low (d ∷ ds) ys h rest =
    ap (λ x. x && apart c (ds ++ ys)) (digit_apart c d low (head_true (is_ascii_digit d) (list_all is_ascii_digit ds) h))
    ∙ digits_apart c low ds ys (tail_true (is_ascii_digit d) (list_all is_ascii_digit ds) h) rest

lacks : (c : ℕ) (xs : List ℕ) → apart c xs ≡ true → Lacks c xs
lacks c [] h i within same = absurd (omega arith)
lacks c (x ∷ xs) h zero within same = let first = head_true (not (x == c)) (apart c xs) h in grind (arith, nat_tests)
lacks c (x ∷ xs) h (suc i) within same = lacks c xs (tail_true (not (x == c)) (apart c xs) h) i (omega arith) same

module _ (n : ℕ) (small : n < 2 ^ 64) where
  digits : list_all is_ascii_digit (decimal n) ≡ true
  digits = digits_decimal own n small

  value : decimal_value (decimal n) ≡ n
  value = digits_value-decimal own n small

  number_apart : (c : ℕ) → c < 48 → (ys : List ℕ) → apart c ys ≡ true → apart c (decimal n ++ ys) ≡ true
  number_apart c low ys rest = digits_apart c low (decimal n) ys digits rest

-- ---- a line
-- numbers below 2^64 are in a step
data IsSmall : Step → Type 0 where
  erase : {p : ℕ} → p < 2 ^ 64 → IsSmall (step.Erase p)
  program : {p page : ℕ} {bytes : List ℕ} → p < 2 ^ 64 → page < 2 ^ 64 → IsSmall (step.Program p page bytes)

-- the words of a program, from their end on
program_words : (p page : ℕ) (bytes : List ℕ)
    → step_words (step.Program p page bytes) ≡ codes "program block=" ++ (decimal p ++ (codes " page=" ++ decimal page))
program_words p page bytes =
    append_assoc (codes "program block=" ++ decimal p) (codes " page=") (decimal page)
    ∙ append_assoc (codes "program block=") (decimal p) (codes " page=" ++ decimal page)

words_apart : (next : Step) → IsSmall next → apart 10 (step_words next) ≡ true
words_apart (step.Erase p) (erase small) =
    ap (apart 10) (sym (append-nil (decimal p))) ∙ number_apart p small 10 (omega arith) [] refl
words_apart (step.Program p page bytes) (program small few) =
    ap (apart 10) (program_words p page bytes)
    ∙ number_apart p small 10 (omega arith) (codes " page=" ++ decimal page)
    (ap (apart 10) (sym (append-nil (decimal page))) ∙ number_apart page few 10 (omega arith) [] refl)

line_read : (next : Step) → IsSmall next → step_of_line (step_words next) ≡ Some (line_of next)
line_read (step.Erase p) (erase small) = ap (λ n. Some (step.Erase n)) (value p small)
line_read (step.Program p page bytes) (program small few) =
    let none = lacks 32 (decimal p) (ap (apart 32) (sym (append-nil (decimal p))) ∙ number_apart p small 32 (omega arith) [] refl) in
    let rest = codes "page=" ++ decimal page in
    ap step_of_line (program_words p page bytes)
    ∙ ap₂ (λ (front back : List ℕ). option_map (λ (number : List ℕ). step.Program (decimal_value front) (decimal_value number) []) (behind (codes "page=") back))
    (before_first-at 32 (decimal p) rest none) (after_first-at 32 (decimal p) rest none)
    ∙ ap₂ (λ (n k : ℕ). Some (step.Program n k [])) (value p small) (value page few)

-- ---- all lines
lines_read : (steps : List Step) → ((k : ℕ) (next : Step) → slice_get steps k ≡ Some next → IsSmall next)
    → filter_map step_of_line (slice_split (λ b. b == 10) (flat_map step_line steps)) ≡ map line_of steps
lines_read [] small = refl
lines_read (x ∷ xs) small =
    let here = small 0 x refl in
    ap (λ text. filter_map step_of_line (slice_split (λ b. b == 10) text)) (append_assoc (step_words x) (codes "\n") (flat_map step_line xs))
    ∙ ap (filter_map step_of_line) (slice_split-at 10 (step_words x) (flat_map step_line xs) (lacks 10 (step_words x) (words_apart x here)))
    ∙ rw (line_read x here) (ap (λ rest. line_of x ∷ rest) (lines_read xs (λ k next e. small (suc k) next e)))

small_within : (s : Sizes) (n : ℕ) → IsGeometry s → n ≤ s.pebs → (next : Step) → target next < n → FitsBlock s next → IsSmall next
small_within s n g few (step.Erase p) inside fits = erase (omega (arith, g.pebs_to))
small_within s n g few (step.Program p page bytes) inside fits =
    program (omega (arith, g.pebs_to)) (let l = fits.0 in omega (arith, g.peb_to, g.page_from))

pub lines_read_back : LinesReadBack
lines_read_back s n steps g few within many =
    ap (λ lines. with_pages s.page lines (programmed steps))
    (ap (λ text. steps_read text) (append_assoc (codes "steps " ++ decimal (length steps)) (codes "\n") (flat_map step_line steps))
    ∙ ap (filter_map step_of_line) (slice_split-at 10 (codes "steps " ++ decimal (length steps)) (flat_map step_line steps)
    (lacks 10 (codes "steps " ++ decimal (length steps)) (ap (apart 10) (sym (append-nil (decimal (length steps)))) ∙ number_apart (length steps) many 10 (omega arith) [] refl)))
    ∙ lines_read steps (λ k next e. let h = within k next e in small_within s n g few next h.0 h.1))
    ∙ rebuilt_within s n steps within
