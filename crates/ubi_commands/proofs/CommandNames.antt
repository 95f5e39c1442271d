-- How a command line grows, and the names of its commands.
use Rattle.ubi_commands.proofs.Prelude.{◌≡◌, ◌&&◌, Bool, ap, ap₂, false, map, not, refl, true, ◌∙◌, AddsArg, AddsSubcommand, subcommand_names, App, Shape, app_of, shape_of, with_rule, with_subcommand, Rule, rule_of, Arg, Command, out-Command, Bor, new_app, command_row, rule, with_groups, with_rows, Argument, CommandRow, ℕ, ◌+◌, ◌<◌, length, take, get_or, sym, fold_more, with_commands}
use Rattle.std.specs.Prelude.{List, [], ◌∷◌}

-- the names of the commands are those of their shapes
pub names_are : (c : Command) (a : App) → app_of c ≡ a → subcommand_names c ≡ map (λ (s : Shape). s.name) a.subs
names_are c a is = ap (λ (x : App). map (λ (s : Shape). s.name) x.subs) is

-- a command with more arguments is as plain as before
rows_plain : (a : App) (rows : List Argument) → (with_rows a rows).top.is_plain ≡ a.top.is_plain
unfolding with_rows
rows_plain a [] = refl
rows_plain a (r ∷ rows) = rows_plain (with_rule a (rule r)) rows

groups_plain : (a : App) (groups : List (Bor (List Argument))) → (with_groups a groups).top.is_plain ≡ a.top.is_plain
unfolding with_groups
groups_plain a [] = refl
groups_plain a (g ∷ groups) = groups_plain (with_rows a g.now) groups ∙ rows_plain a g.now

third_is_false : (a b g r : Bool) → (a && (b && (not g && r))) ≡ true → g ≡ false
third_is_false true true false r h = refl
third_is_false true true true r h = absurd (cc)
third_is_false true false g r h = absurd (cc)
third_is_false false b g r h = absurd (cc)

plain_alone : (c : Command) → (shape_of c).is_plain ≡ true → (out-Command c).has_globals ≡ false
plain_alone c plain = third_is_false _ _ _ _ plain

-- the groups before one, and it
pub group_more : (a x new : App) (groups : List (Bor (List Argument))) (i : ℕ) (g : Bor (List Argument)) → i < length groups
    → new ≡ with_rows x (get_or groups i g).now → x ≡ with_groups a (take i groups) → new ≡ with_groups a (take (i + 1) groups)
unfolding with_groups
group_more a x new groups i g inside is before =
    is ∙ ap (λ (y : App). with_rows y (get_or groups i g).now) before
    ∙ sym (fold_more (λ (y : App) (h : Bor (List Argument)). with_rows y h.now) a groups i g inside)

-- the commands before one, and it: as it has no global argument, it is added as it is
pub command_more : (old sub new : Command) (a : App) (rows : List CommandRow) (i : ℕ) (row : CommandRow) → i < length rows
    → AddsSubcommand old sub new → app_of sub ≡ command_row (get_or rows i row)
    → app_of old ≡ with_commands a (take i rows) → app_of new ≡ with_commands a (take (i + 1) rows)
unfolding command_row with_commands
command_more old sub new a rows i row inside adds is before =
    adds.shape no_globals ∙ ap₂ with_subcommand before top
    ∙ sym (fold_more (λ (x : App) (r : CommandRow). with_subcommand x (command_row r).top) a rows i row inside)
  where
    here : CommandRow
    here = get_or rows i row

    top : shape_of sub ≡ (command_row here).top
    top = ap (λ (x : App). x.top) is

    no_globals : (out-Command sub).has_globals ≡ false
    no_globals =
        plain_alone sub (ap (λ (t : Shape). t.is_plain) top ∙ groups_plain (new_app here.name.now) here.arguments.now)

-- an argument that isn't global is added as its rule
pub argued : (old new : Command) (a : Arg) (x : App) (r : Rule) → AddsArg old a new → a.global ≡ false → rule_of a ≡ r
    → app_of old ≡ x → app_of new ≡ with_rule x r
argued old new a x r adds local is old_is = adds.shape local ∙ ap₂ with_rule old_is is
