-- What a use of an argument leaves among the words of a command, if the words pass.
use Rattle.ubi_commands.proofs.Prelude.{◌≡◌, ◌∙◌, ◌&&◌, ◌||◌, ◌++◌, ◌==◌, ◌≤◌, ◌∷◌, [], Bool, List, Some, ap, append-nil, arith, cond, false, length, not, refl, subst, sym, true, true≢false, ℕ, IfSome, codes, pos, list_all, list_any, option_map_or, bytes_eq, eqb-true, ne_eqb, unwrap_or_range, action_fault, set_fault, use_fault, values_fault, Kinds, or_else, range_kinds, value_passes, is_request, Row, Rule, Text, action_of, at_row, has_row, is_empty, more_values, most_values, reading_by, used, used_by_id, values_or_missing, with_values, without, ArgAction, ValueParser, CommandLine, both, None, Option, stronger, used_as}
use Rattle.std.specs.Prelude.{find}
use Rattle.clap.specs.declared.builder.action.ArgAction.TheVariants as action
use Rattle.clap.specs.declared.builder.value_parser.ValueParser.TheVariants as parser

-- ---- arguments

-- a use of the argument brings values
abbrev pub takes_text : ArgAction → Bool
takes_text action.Set = true
takes_text action.Append = true
takes_text _ = false

-- the names of the arguments that are numbers, and no texts for the command line
abbrev pub is_number : Text → Bool
is_number id = list_any (λ name. bytes_eq name id)
    (codes "pebs" ∷ codes "block" ∷ codes "id" ∷ codes "spares" ∷ codes "seq" ∷ codes "lnum" ∷ codes "stop" ∷ [])

abbrev pub is_word : Option ValueParser → Bool
is_word (Some (parser.Signed (pos low) (pos high))) = low == 0 && high == 4294967295
is_word _ = false

-- the argument asks for help, or takes one value a use, which is a number where its name is that of one
abbrev pub takes_one : Rule → Bool
takes_one a = (is_request (action_of a) || (takes_text (action_of a)
    && ((unwrap_or_range a.range).start_inclusive == 1 && most_values a == 1)))
    && (is_empty a.defaults && (not (is_number a.id) || is_word a.parser))

-- the row has the values of such an argument, and the parser takes the first
pub record IsGiven (r : Row) : Type 0 where
  pub rule : Rule
  pub takes : takes_one rule ≡ true
  pub id : rule.id ≡ r.id
  pub reading : r.reading ≡ reading_by rule
  pub text : Text
  pub more : List Text
  pub values : r.values ≡ text ∷ more
  pub passes : value_passes rule text ≡ true

abbrev pub EachRow : List Row → Type 0
EachRow [] = Unit {0}
EachRow (r ∷ rs) = IsGiven r × EachRow rs

pub either : (a b : Bool) → (a || b) ≡ true → (a ≡ false → b ≡ true)
either true b e f = absurd (true≢false f)
either false b e f = e

-- an argument that is found is one of those that the test takes
pub found_takes : (p : Rule → Bool) (c : List Rule) → list_all takes_one c ≡ true
    → IfSome (find p c) (λ a. takes_one a ≡ true)
found_takes p [] ok = tt
found_takes p (a ∷ rest) ok = go (p a) (found_takes p rest (both (takes_one a) _ ok).1)
  where
    go : (b : Bool) → IfSome (find p rest) (λ x. takes_one x ≡ true)
        → IfSome (cond b (Some a) (find p rest)) (λ x. takes_one x ≡ true)
    go true behind = (both _ _ ok).0
    go false behind = behind

-- ---- kinds

pub or_none : (a b : Kinds) → or_else a b ≡ [] → (a ≡ []) × (b ≡ [])
or_none [] b e = (refl, e)
or_none (k ∷ ks) b e = absurd (cc)

no_request : (x : ArgAction) (again : Bool) (a : Rule) (values : List Text) (rows : List Row) → is_request x ≡ true
    → action_fault x again a values rows ≡ [] → ⊥
no_request action.Set again a values rows e f = true≢false (sym e)
no_request action.Append again a values rows e f = true≢false (sym e)
no_request action.SetTrue again a values rows e f = true≢false (sym e)
no_request action.SetFalse again a values rows e f = true≢false (sym e)
no_request action.Count again a values rows e f = true≢false (sym e)
no_request action.Help again a values rows e f = cc
no_request action.HelpShort again a values rows e f = cc
no_request action.HelpLong again a values rows e f = cc
no_request action.Version again a values rows e f = cc

many : (n : ℕ) → 2 ≤ n → range_kinds 1 1 n ≡ [] → ⊥
many n h e =
    let none : (n == 0) ≡ false = ne_eqb _ _ (λ x. omega arith) in
    let more : (1 == n) ≡ false = ne_eqb _ _ (λ x. omega arith) in
    let bad = rw (none, more) at e in
    cc

-- a use with one value
one_value : (least most : ℕ) (values : List Text) → least ≡ 1 → most ≡ 1 → range_kinds least most (length values) ≡ []
    → (v : Text) × (values ≡ v ∷ [])
one_value least most [] l m e = let bad = rw l at e in absurd (cc)
one_value least most (v ∷ []) l m e = (v, refl)
one_value least most (v ∷ w ∷ rest) l m e =
    absurd (many (length (v ∷ w ∷ rest)) (omega arith) (rw (l, m) at e))

passed : (b : Bool) (k : Kinds) → cond b [] k ≡ [] → (k ≡ [] → ⊥) → b ≡ true
passed true k none bad = refl
passed false k none bad = absurd (bad none)

value_passed : (a : Rule) (v : Text) → values_fault a (v ∷ []) ≡ [] → value_passes a v ≡ true
value_passed a v e = passed (value_passes a v) _ (or_none _ _ e).0 (λ h. absurd (cc))

-- ---- rows

at_end : (id : Text) (change : Row → List Row) (missing rows : List Row) → has_row id rows ≡ false
    → at_row id change missing rows ≡ rows ++ missing
at_end id change missing [] none = refl
at_end id change missing (r ∷ rs) none = go (bytes_eq r.id id) none (λ h. at_end id change missing rs h)
  where
    go : (b : Bool) → (b || has_row id rs) ≡ false
        → (has_row id rs ≡ false → at_row id change missing rs ≡ rs ++ missing)
        → cond b (change r ++ rs) (r ∷ at_row id change missing rs) ≡ (r ∷ rs) ++ missing
    go true h behind = absurd (true≢false h)
    go false h behind = ap (λ xs. r ∷ xs) (behind h)

-- one value more behind those of a row
more_given : (r : Row) (v : Text) → IsGiven r
    → IsGiven (record r { values = r.values ++ v ∷ []; source = Some (stronger r.source CommandLine) })
more_given r v is = record {
  rule = is.rule;
  takes = is.takes;
  id = is.id;
  reading = is.reading;
  text = is.text;
  more = is.more ++ v ∷ [];
  values = ap (λ (vs : List Text). vs ++ v ∷ []) is.values;
  passes = is.passes;
}

-- the row of a value that passes
row_given : (a : Rule) (v : Text) → takes_one a ≡ true → value_passes a v ≡ true
    → IsGiven (record { id = a.id; values = v ∷ []; count = None; source = Some CommandLine; reading = reading_by a })
row_given a v takes passes = record {
  rule = a;
  takes = takes;
  id = refl;
  reading = refl;
  text = v;
  more = [];
  values = refl;
  passes = passes;
}

-- a value that passes comes behind those of its row, or makes one
value_given : (a : Rule) (v : Text) (rows : List Row) → takes_one a ≡ true → value_passes a v ≡ true → EachRow rows
    → EachRow (with_values a.id (reading_by a) CommandLine (v ∷ []) rows)
value_given a v [] takes passes each = (row_given a v takes passes, tt)
value_given a v (r ∷ rs) takes passes each = go (bytes_eq r.id a.id) (value_given a v rs takes passes each.1)
  where
    later : List Row
    later = with_values a.id (reading_by a) CommandLine (v ∷ []) rs

    go : (b : Bool) → EachRow later → EachRow (cond b (more_values CommandLine (v ∷ []) r ++ rs) (r ∷ later))
    go true behind = (more_given r v each.0, each.1)
    go false behind = (each.0, behind)

unused : (again : Bool) (id : Text) (rows : List Row) (k : Kinds) → again ≡ false
    → cond (has_row id rows && not again) k [] ≡ [] → (k ≡ [] → ⊥) → has_row id rows ≡ false
unused again id rows k once e bad = go (has_row id rows) refl
  where
    go : (b : Bool) → has_row id rows ≡ b → has_row id rows ≡ false
    go true is = absurd (bad (rw (is, once) at e))
    go false is = is

-- a value that passes makes a row, where there is none
set_given : (again : Bool) (a : Rule) (v : Text) (rows : List Row) → again ≡ false → takes_one a ≡ true
    → set_fault again a (v ∷ []) rows ≡ [] → EachRow rows
    → EachRow (with_values a.id (reading_by a) CommandLine (v ∷ []) (without a.id rows))
set_given again a v rows once takes e each =
    let two = or_none _ _ e in
    let none : has_row a.id rows ≡ false = unused again a.id rows _ once two.0 (λ h. absurd (cc)) in
    let same : without a.id rows ≡ rows = at_end a.id (λ _. []) [] rows none ∙ append-nil rows in
    subst (λ (xs : List Row). EachRow (with_values a.id (reading_by a) CommandLine (v ∷ []) xs)) (sym same)
    (value_given a v rows takes (value_passed a v two.1) each)

-- and so does a use with one value that passes
text_given : (x : ArgAction) (again : Bool) (a : Rule) (v : Text) (rows : List Row) → takes_text x ≡ true → again ≡ false
    → takes_one a ≡ true → action_fault x again a (v ∷ []) rows ≡ [] → EachRow rows
    → EachRow (used_as x a.id (reading_by a) (v ∷ []) rows)
text_given action.Set again a v rows text once takes e each = set_given again a v rows once takes e each
text_given action.Append again a v rows text once takes e each = value_given a v rows takes (value_passed a v e) each
text_given action.SetTrue again a v rows text once takes e each = absurd (true≢false (sym text))
text_given action.SetFalse again a v rows text once takes e each = absurd (true≢false (sym text))
text_given action.Count again a v rows text once takes e each = absurd (true≢false (sym text))
text_given action.Help again a v rows text once takes e each = absurd (true≢false (sym text))
text_given action.HelpShort again a v rows text once takes e each = absurd (true≢false (sym text))
text_given action.HelpLong again a v rows text once takes e each = absurd (true≢false (sym text))
text_given action.Version again a v rows text once takes e each = absurd (true≢false (sym text))

-- and a use that passes
pub use_given : (again : Bool) (a : Rule) (values : List Text) (rows : List Row) → again ≡ false → takes_one a ≡ true
    → use_fault again a values rows ≡ [] → EachRow rows → EachRow (used a values rows)
use_given again a values rows once takes e each = go (is_request (action_of a)) refl
  where
    parts : (range_kinds (unwrap_or_range a.range).start_inclusive (most_values a) (length values) ≡ [])
        × (action_fault (action_of a) again a (values_or_missing a values) rows ≡ [])
    parts =
        or_none (range_kinds (unwrap_or_range a.range).start_inclusive (most_values a) (length values))
        (action_fault (action_of a) again a (values_or_missing a values) rows) e

    go : (b : Bool) → is_request (action_of a) ≡ b → EachRow (used a values rows)
    go true is = absurd (no_request (action_of a) again a _ rows is parts.1)
    go false is =
        let text = both (takes_text (action_of a)) _ (either (is_request (action_of a)) _ (both _ _ takes).0 is) in
        let range = both ((unwrap_or_range a.range).start_inclusive == 1) (most_values a == 1) text.1 in
        let one = one_value _ _ values (eqb-true _ _ range.0) (eqb-true _ _ range.1) parts.0 in
        let fault : action_fault (action_of a) again a (one.0 ∷ []) rows ≡ [] = rw one.1 at parts.1 in
        rw one.1 (text_given (action_of a) again a one.0 rows text.0 once takes fault each)

pub use_found : (again : Bool) (o : Option Rule) (values : List Text) (rows : List Row) → again ≡ false
    → IfSome o (λ a. takes_one a ≡ true) → option_map_or (λ a. use_fault again a values rows) o [] ≡ []
    → EachRow rows → EachRow (used_by_id o values rows)
use_found again None values rows once takes e each = each
use_found again (Some a) values rows once takes e each = use_given again a values rows once takes e each
