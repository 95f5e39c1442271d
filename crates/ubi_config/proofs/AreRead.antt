-- What lines that are read without a fault say, after what the lines above them said.
use Rattle.ubi_config.proofs.Prelude.{◌≡◌, ◌+◌, ℕ, List, [], ◌∷◌, ◌++◌, append-nil, append_assoc, arith, length, refl, subst, sym, ap, ◌∙◌, Option, Some, None, Result, Ok, option_map, option_to_list, option_or, result_unwrap_or, length_push, later_cause, Fault, cause_after, line_at, line_fault, line_number, line_of, lines, saying, sayings, Line, ConfigCause, option_and_then}
use Rattle.ubi_config.proofs.LinesLeft.{first_from_start, first_left, next_cause}
use Rattle.ubi_config.proofs.ReadSoFar.{nothing_yet, saying_is, sayings-push}

-- the lines from a place on say this, where `above` and `own` is what the lines above them said
abbrev pub AreRead : ℕ → List Line → List Line → List (List ℕ) → List Line → Type 0
AreRead place above own [] said = said ≡ []
AreRead place above own (t ∷ ts) said =
    (o : Option Line) × (more : List Line) × (line_of (line_number place) t ≡ Ok o)
    × (option_and_then (later_cause (above ++ own)) o ≡ None) × (said ≡ option_to_list o ++ more)
    × AreRead (place + 1) above (own ++ option_to_list o) ts more

-- a line that says something
pub take_line : (place : ℕ) (above own : List Line) (t : List ℕ) (ts : List (List ℕ)) (l : Line) (more : List Line)
    → line_of (line_number place) t ≡ Ok (Some l) → later_cause (above ++ own) l ≡ None
    → AreRead (place + 1) above (own ++ l ∷ []) ts more → AreRead place above own (t ∷ ts) (l ∷ more)
take_line place above own t ts l more read fits rest = (Some l, more, read, fits, refl, rest)

-- a line that is skipped
pub skip_line : (place : ℕ) (above own : List Line) (t : List ℕ) (ts : List (List ℕ)) (more : List Line)
    → line_of (line_number place) t ≡ Ok None → AreRead (place + 1) above own ts more
    → AreRead place above own (t ∷ ts) more
skip_line place above own t ts more read rest =
    (None, more, read, refl, refl, subst (λ own. AreRead (place + 1) above own ts more) (sym (append-nil own)) rest)

-- lines, and more that follow
pub read-append : (place : ℕ) (above own : List Line) (ts us : List (List ℕ)) (said more : List Line)
    → AreRead place above own ts said → AreRead (place + length ts) above (own ++ said) us more
    → AreRead place above own (ts ++ us) (said ++ more)
read-append place above own [] us said more first second =
    let here : place + 0 ≡ place = omega arith in
    let none : own ++ said ≡ own = ap (λ ls. own ++ ls) first ∙ append-nil own in
    subst (λ ls. AreRead place above own us (ls ++ more)) (sym first)
    (subst (λ o. AreRead place above o us more) none (subst (λ p. AreRead p above (own ++ said) us more) here second))
read-append place above own (t ∷ ts) us said more (o, m, read, fits, is, rest) second =
    let next : place + length (t ∷ ts) ≡ place + 1 + length ts = omega arith in
    let behind : own ++ said ≡ (own ++ option_to_list o) ++ m =
    ap (λ ls. own ++ ls) is ∙ sym (append_assoc own (option_to_list o) m) in (
      o,
      m ++ more,
      read,
      fits,
      ap (λ ls. ls ++ more) is ∙ append_assoc (option_to_list o) m more,
      read-append (place + 1) above (own ++ option_to_list o) ts us m more rest
          (subst (λ ls. AreRead (place + 1 + length ts) above ls us more) behind
          (subst (λ p. AreRead p above (own ++ said) us more) next second)),
    )

-- what was said above a section, and what it said itself, is what is above those that follow
pub read_under : (place : ℕ) (above own other : List Line) (ts : List (List ℕ)) (said : List Line)
    → AreRead place (above ++ own) other ts said → AreRead place above (own ++ other) ts said
read_under place above own other [] said h = h
read_under place above own other (t ∷ ts) said (o, m, read, fits, is, rest) = (
  o,
  m,
  read,
  subst (λ ls. option_and_then (later_cause ls) o ≡ None) (append_assoc above own other) fits,
  is,
  subst (λ ls. AreRead (place + 1) above ls ts m) (sym (append_assoc own other (option_to_list o)))
      (read_under (place + 1) above own (other ++ option_to_list o) ts m rest),
)

no_next : (before : List (List ℕ)) (t : List ℕ) (above : List Line) (o : Option Line) → sayings before ≡ above
    → line_of (line_number (length before)) t ≡ Ok o → option_and_then (later_cause above) o ≡ None
    → next_cause before t ≡ None
no_next before t above o is read fits =
    ap (λ ls. option_map (λ c. (line_number (length before), c)) (cause_after ls (line_at (length before, t)))) is
    ∙ ap (λ (r : Result (Option Line) ConfigCause). option_map (λ c. (line_number (length before), c)) (cause_after above r)) read
    ∙ ap (option_map (λ c. (line_number (length before), c))) fits

said_next : (before : List (List ℕ)) (t : List ℕ) (above : List Line) (o : Option Line) → sayings before ≡ above
    → line_of (line_number (length before)) t ≡ Ok o → sayings (before ++ t ∷ []) ≡ above ++ option_to_list o
said_next before t above o is read =
    sayings-push before t
    ∙ ap (λ ls. ls ++ option_to_list (saying (length before, t))) is
    ∙ ap (λ (o : Option Line). above ++ option_to_list o)
    (saying_is (length before) t ∙ ap (λ (r : Result (Option Line) ConfigCause). result_unwrap_or r None) read)

read_left : (place : ℕ) (before : List (List ℕ)) (above own : List Line) (ts : List (List ℕ)) (said : List Line)
    → place ≡ length before → sayings before ≡ above ++ own → AreRead place above own ts said
    → (first_left before ts ≡ None) × (sayings (before ++ ts) ≡ (above ++ own) ++ said)
read_left place before above own [] said at is h = (
  refl,
  ap sayings (append-nil before) ∙ is ∙ sym (append-nil (above ++ own)) ∙ ap (λ ls. (above ++ own) ++ ls) (sym h),
)
read_left place before above own (t ∷ ts) said at is (o, m, read, fits, eq, rest) =
    let here = subst (λ p. line_of (line_number p) t ≡ Ok o) at read in
    let after = said_next before t (above ++ own) o is here ∙ append_assoc above own (option_to_list o) in
    let long : place + 1 ≡ length (before ++ t ∷ []) = omega (arith, at, length_push before t) in
    let more = read_left (place + 1) (before ++ t ∷ []) above (own ++ option_to_list o) ts m long after rest in (
      ap (λ (f : Option Fault). option_or f (first_left (before ++ t ∷ []) ts)) (no_next before t (above ++ own) o is here fits)
          ∙ more.0,
      ap sayings (sym (append_assoc before (t ∷ []) ts))
          ∙ more.1
          ∙ ap (λ ls. ls ++ m) (sym (append_assoc above own (option_to_list o)))
          ∙ append_assoc (above ++ own) (option_to_list o) m
          ∙ ap (λ ls. (above ++ own) ++ ls) (sym eq),
    )

-- a text whose lines are read
pub text_read : (text : List ℕ) (said : List Line) → AreRead 0 [] [] (lines text) said
    → (line_fault text ≡ None) × (sayings (lines text) ≡ said)
text_read text said h =
    let left = read_left 0 [] [] [] (lines text) said refl (sym nothing_yet) h in
    (first_from_start text ∙ left.0, left.1)
