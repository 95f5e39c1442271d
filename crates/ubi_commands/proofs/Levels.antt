-- What a command's words give, once the command line takes them.
use Rattle.ubi_commands.proofs.Prelude.{◌≡◌, ◌∙◌, ◌&&◌, ◌∷◌, [], ap, Bool, List, Some, arith, cond, false, length, not, refl, subst, suc, sym, true, true≢false, codes, fold, is_some, option_map, find, list_all, list_any, option_map_or, bytes_eq, eqb-true, explicit_source, built_fault, check_fault, defaults_fault, entered_fault, level_fault, settle_fault, walk_fault, Kinds, check_kinds, or_else, App, Shape, entered, label_of, names_of, rows_at, is_given, Held, Names, Row, Rule, Text, answers_to, default_rows, finished, has_row, is_empty, nothing_held, reading_by, rows_after, settled, stop_after, walk, walk_from, with_default, both, None, Option}
use Rattle.ubi_commands.proofs.Uses.{EachRow, or_none, takes_one}
use Rattle.ubi_commands.proofs.Unhelped.{NoHelp, walk_meets}
use Rattle.ubi_commands.proofs.Walks.{settled_given, walk_given}

check_none : (a b c : Bool) → check_kinds a b c ≡ [] → (a ≡ false) × (b ≡ false) × (c ≡ false)
check_none true b c e = absurd (cc)
check_none false true c e = absurd (cc)
check_none false false true e = absurd (cc)
check_none false false false e = (refl, refl, refl)

-- ---- the rows of a command

no_default : (id : Text) (rows : List Row) (a : Rule) (ds : List Text) → is_empty ds ≡ true
    → default_rows id (reading_by a) ds rows ≡ rows
no_default id rows a [] e = refl
no_default id rows a (d ∷ ds) e =
    let bad : suc (length ds) ≡ 0 = eqb-true _ _ e in
    absurd (omega arith)

default_kept : (rows : List Row) (a : Rule) → takes_one a ≡ true → with_default rows a ≡ rows
default_kept rows a takes = go (has_row a.id rows)
  where
    go : (b : Bool) → cond b rows (default_rows a.id (reading_by a) a.defaults rows) ≡ rows
    go true = refl
    go false = no_default a.id rows a a.defaults (both (is_empty a.defaults) _ (both _ _ takes).1).0

defaults_kept : (c : List Rule) (rows : List Row) → list_all takes_one c ≡ true → fold with_default rows c ≡ rows
defaults_kept [] rows ok = refl
defaults_kept (a ∷ rest) rows ok =
    let two = both (takes_one a) _ ok in
    ap (λ now. fold with_default now rest) (default_kept rows a two.0) ∙ defaults_kept rest rows two.1

-- the rows of a command whose words are taken
pub record AreGiven (s : Shape) (rows : List Row) : Type 0 where
  pub each : EachRow rows
  pub needed : list_any (λ a. a.required && not (is_given a.id rows)) s.rules ≡ false

pub leaf_given : (s : Shape) (words : List Text) → s.args_override_self ≡ false → s.subcommand_negates_reqs ≡ false
    → list_all takes_one s.rules ≡ true → level_fault s [] nothing_held words false [] ≡ []
    → AreGiven s (rows_after s.rules [] words)
leaf_given s words once negates ok e =
    let end = (walk s.rules [] nothing_held words).held in
    let rest = or_else (settle_fault s.rules s.args_override_self end)
    (or_else (defaults_fault (settled s.rules end).rows s.rules) (check_fault s (finished s.rules end) false)) in
    let one = or_none (walk_fault s [] (walk_from nothing_held) words) (or_else [] rest) e in
    let two = or_none (settle_fault s.rules s.args_override_self end) _ one.1 in
    let three = or_none (defaults_fault (settled s.rules end).rows s.rules) (check_fault s (finished s.rules end) false)
    two.1 in
    let same : finished s.rules end ≡ (settled s.rules end).rows = defaults_kept s.rules (settled s.rules end).rows ok in
    let walked = walk_given s once ok [] (walk_from nothing_held) words one.0 tt in
    let checks = check_none _ _ _ three.1 in
    record {
      each = subst EachRow (sym same) (settled_given s.rules s.args_override_self once ok end two.0 walked);
      needed = rw negates at checks.2;
    }

-- ---- the command that is met

pub record IsMet (a : App) (words : List Text) : Type 0 where
  pub name : Text
  pub behind : List Text
  pub shape : Shape
  pub no_help : bytes_eq name (codes "help") ≡ false
  pub found : find (λ s. answers_to name (label_of s)) a.subs ≡ Some shape
  pub is : entered a (stop_after a.top.rules (names_of a) words) ≡ Some (rows_at shape behind)
  pub fault : level_fault shape [] nothing_held behind false [] ≡ []

pub met : (a : App) (words : List Text) → a.top.subcommand_required ≡ true → a.top.disable_help_subcommand ≡ false
    → built_fault a nothing_held words ≡ [] → IsMet a words
met a words required has_help e = by_stop stop refl (walk_meets a.top has_help names (walk_from nothing_held) words one.0 tt)
    two.0 checks.1
  where
    names : Names
    names = names_of a

    end : Held
    end = (walk a.top.rules names nothing_held words).held

    stop : Option (Text × List Text)
    stop = stop_after a.top.rules names words

    checked : Kinds
    checked = check_fault a.top (finished a.top.rules end) (is_some (entered a stop))

    defaulted : Kinds
    defaulted = defaults_fault (settled a.top.rules end).rows a.top.rules

    held : Kinds
    held = settle_fault a.top.rules a.top.args_override_self end

    one : (walk_fault a.top names (walk_from nothing_held) words ≡ [])
        × (or_else (entered_fault a stop) (or_else held (or_else defaulted checked)) ≡ [])
    one =
        or_none (walk_fault a.top names (walk_from nothing_held) words)
        (or_else (entered_fault a stop) (or_else held (or_else defaulted checked))) e

    two : (entered_fault a stop ≡ []) × (or_else held (or_else defaulted checked) ≡ [])
    two = or_none (entered_fault a stop) (or_else held (or_else defaulted checked)) one.1

    checks : ((not (is_some (entered a stop)) && (a.top.arg_required_else_help
        && not (list_any (λ r. explicit_source r.source) (finished a.top.rules end)))) ≡ false)
        × ((not (is_some (entered a stop)) && a.top.subcommand_required) ≡ false)
        × ((not (a.top.subcommand_negates_reqs && is_some (entered a stop))
        && list_any (λ r. r.required && not (is_given r.id (finished a.top.rules end))) a.top.rules) ≡ false)
    checks = check_none _ _ _ (or_none defaulted checked (or_none held (or_else defaulted checked) two.1).1).1

    by_shape : (p : Text × List Text) (o : Option Shape) → stop ≡ Some p → bytes_eq p.0 (codes "help") ≡ false
        → find (λ s. answers_to p.0 (label_of s)) a.subs ≡ o
        → option_map_or (λ s. level_fault s [] nothing_held p.1 false []) o [] ≡ []
        → (not (is_some (option_map (λ s. rows_at s p.1) o)) && a.top.subcommand_required) ≡ false → IsMet a words
    by_shape p None is still found f r = absurd (true≢false (sym required ∙ r))
    by_shape p (Some s) is still found f r = record {
      name = p.0;
      behind = p.1;
      shape = s;
      no_help = still;
      found = found;
      is = rw (is, found) refl;
      fault = f;
    }

    by_stop : (o : Option (Text × List Text)) → stop ≡ o → NoHelp o → entered_fault a o ≡ []
        → (not (is_some (entered a o)) && a.top.subcommand_required) ≡ false → IsMet a words
    by_stop None is still f r = absurd (true≢false (sym required ∙ r))
    by_stop (Some p) is still f r = by_shape p (find (λ s. answers_to p.0 (label_of s)) a.subs) is still refl f r
