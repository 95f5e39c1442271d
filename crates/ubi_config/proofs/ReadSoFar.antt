-- What is known of a text as far as its lines have been read.
use Rattle.ubi_config.proofs.Prelude.{◌≡◌, ◌<◌, ℕ, ◌+◌, suc, List, [], ◌∷◌, ◌++◌, length, drop, get_or, refl, sym, ap, ◌∙◌, arith, Option, Some, None, min, option_map, option_to_list, cons_option, enumerate_from, option_or, result_unwrap_or, drop_all, drop_more, length_push, filter_map-append, IsFault, cause_after, line_at, line_fault, line_number, lines, saying, sayings, line_of, IsCause, error_at, ConfigCause, LineError, Line}
use Rattle.std.specs.List.{filter_map}
use Rattle.ubi_config.specs.declared.errors.LineError.TheVariants as line_error
use Rattle.ubi_config.proofs.LinesLeft.{first_from_start, first_left, next_cause}

pub record IsReadSoFar (text : List ℕ) (before : List (List ℕ)) (said : List Line) (number : ℕ) : Type 0 where
  pub left : line_fault text ≡ first_left before (drop (length before) (lines text))
  pub said_is : said ≡ sayings before
  pub number_is : number ≡ min (length before) 0xFFFFFFFF

pub nothing_yet : [] ≡ sayings []
unfolding sayings
nothing_yet = refl

pub read_none : (text : List ℕ) → IsReadSoFar text [] [] 0
read_none text = record {
  left = first_from_start text;
  said_is = nothing_yet;
  number_is = omega arith;
}

enumerate-push : (n : ℕ) (xs : List (List ℕ)) (x : List ℕ)
    → enumerate_from n (xs ++ x ∷ []) ≡ enumerate_from n xs ++ (n + length xs, x) ∷ []
enumerate-push n [] x = ap (λ (m : ℕ). (m, x) ∷ []) (omega arith)
enumerate-push n (y ∷ xs) x =
    let place : n + 1 + length xs ≡ n + suc (length xs) = omega arith in
    ap (λ (es : List (ℕ × List ℕ)). (n, y) ∷ es)
    (enumerate-push (n + 1) xs x ∙ ap (λ (m : ℕ). enumerate_from (n + 1) xs ++ (m, x) ∷ []) place)

option_one : (o : Option Line) → cons_option o [] ≡ option_to_list o
option_one None = refl
option_one (Some s) = refl

pub sayings-push : (before : List (List ℕ)) (line : List ℕ)
    → sayings (before ++ line ∷ []) ≡ sayings before ++ option_to_list (saying (length before, line))
unfolding sayings
sayings-push before line =
    ap (filter_map saying) (enumerate-push 0 before line)
    ∙ ap (λ (m : ℕ). filter_map saying (enumerate_from 0 before ++ (m, line) ∷ [])) (omega arith)
    ∙ filter_map-append saying (enumerate_from 0 before) ((length before, line) ∷ [])
    ∙ ap (λ ls. filter_map saying (enumerate_from 0 before) ++ ls) (option_one (saying (length before, line)))

pub saying_is : (place : ℕ) (line : List ℕ)
    → saying (place, line) ≡ result_unwrap_or (line_of (line_number place) line) None
unfolding saying
saying_is place line = refl

module _ (text : List ℕ) (before : List (List ℕ)) (said : List Line) (n : ℕ) (line : List ℕ)
    (k : IsReadSoFar text before said n) (within : length before < length (lines text))
    (is : line ≡ get_or (lines text) (length before) line) (m : ℕ) (next : m ≡ min (n + 1) 0xFFFFFFFF) where
  next_line : drop (length before) (lines text) ≡ line ∷ drop (length before + 1) (lines text)
  next_line =
      drop_more (lines text) (length before) line within ∙ ap (λ l. l ∷ drop (length before + 1) (lines text)) (sym is)

  this_line : line_fault text
      ≡ option_or (next_cause before line) (first_left (before ++ line ∷ []) (drop (length before + 1) (lines text)))
  this_line = k.left ∙ ap (first_left before) next_line

  number : line_number (length before) ≡ m
  number = let is = k.number_is in omega arith

  this_cause : cause_after said (line_of m line) ≡ cause_after (sayings before) (line_at (length before, line))
  this_cause =
      ap (λ (said : List Line). cause_after said (line_of m line)) k.said_is
      ∙ ap (λ (m : ℕ). cause_after (sayings before) (line_of m line)) (sym number)

  -- a line more is read
  pub read_one : (more : List Line) → cause_after said (line_of m line) ≡ None
      → more ≡ said ++ option_to_list (result_unwrap_or (line_of m line) None)
      → IsReadSoFar text (before ++ line ∷ []) more m
  read_one more none added =
      let long : length before + 1 ≡ length (before ++ line ∷ []) = sym (length_push before line) in
      let number_was = k.number_is in
      record {
        left = this_line
            ∙ ap (λ (o : Option ConfigCause). option_or (option_map (λ c. (line_number (length before), c)) o)
            (first_left (before ++ line ∷ []) (drop (length before + 1) (lines text)))) (sym this_cause ∙ none)
            ∙ ap (λ i. first_left (before ++ line ∷ []) (drop i (lines text))) long;
        said_is = added
            ∙ ap (λ (ls : List Line). ls ++ option_to_list (result_unwrap_or (line_of m line) None)) k.said_is
            ∙ ap (λ (m : ℕ). sayings before ++ option_to_list (result_unwrap_or (line_of m line) None)) (sym number)
            ∙ ap (λ (o : Option Line). sayings before ++ option_to_list o) (sym (saying_is (length before) line))
            ∙ sym (sayings-push before line);
        number_is = omega arith;
      }

  -- it is refused for its cause
  refused_one : (c : ConfigCause) → cause_after said (line_of m line) ≡ Some c → line_fault text ≡ Some (m, c)
  refused_one c some =
      this_line
      ∙ ap (λ (o : Option ConfigCause). option_or (option_map (λ c. (line_number (length before), c)) o)
      (first_left (before ++ line ∷ []) (drop (length before + 1) (lines text)))) (sym this_cause ∙ some)
      ∙ ap (λ i. Some (i, c)) number

  pub refused_at : (e : LineError) → IsCause (cause_after said (line_of m line)) e
      → IsFault (line_fault text) (error_at m e)
  refused_at (line_error.Cause c) h = refused_one c h
  refused_at line_error.Memory h = tt

-- all lines are read
pub read_all : (text : List ℕ) (before : List (List ℕ)) (said : List Line) (n : ℕ) → IsReadSoFar text before said n
    → before ≡ lines text → (line_fault text ≡ None) × (said ≡ sayings (lines text))
read_all text before said n k h =
    let none : drop (length before) (lines text) ≡ [] =
    drop_all (length before) (lines text) (omega (arith, ap length h)) in
    (k.left ∙ ap (first_left before) none, k.said_is ∙ ap sayings h)
