-- What the rows of a command line mean, and where the words of a command stand.
use Rattle.std.specs.Borrow.{Bor}
use Rattle.std.specs.Prelude.{◌≡◌, ◌∷◌, [], Bool, List, None, Option, Some, codes, false, fold, pos, true, ℕ}
use Rattle.std.specs.Prelude.{map as mapped}
use Rattle.clap.specs.Simple.{App, new_app, new_rule, on_top, with_rule, with_subcommand}
use Rattle.clap.specs.Matches.{found_of}
use Rattle.clap.specs.Walk.{Row, Rule, Text, rows_of}
use Rattle.clap.specs.declared.builder.action.ArgAction.TheVariants.{Append}
use Rattle.clap.specs.declared.builder.value_parser.ValueParser.TheVariants as parser
use Rattle.clap.specs.declared.parser.matches.ArgMatches.{ArgMatches}
use Rattle.ubi_commands.specs.Commands.{Asks, command_name}
use Rattle.ubi_commands.specs.declared.command_line.Argument.{Argument}
use Rattle.ubi_commands.specs.declared.command_line.CommandRow.{CommandRow}
use Rattle.ubi_commands.specs.declared.command_line.Need.{Need}
use Rattle.ubi_commands.specs.declared.command_line.Need.TheVariants as need
use Rattle.ubi_commands.specs.declared.command_line.Takes.{Takes}
use Rattle.ubi_commands.specs.declared.command_line.Takes.TheVariants as takes
use Rattle.ubi_commands.specs.declared.requests.Request.{Request}
use Rattle.ubi_commands.specs.Commands.{check, commands, geometry, list, map, show, tool}

-- whether an argument has to be given
abbrev pub is_needed : Need → Bool
is_needed need.Needed = true
is_needed need.Optional = false

-- a rule with what its argument takes, by the name of the rule
abbrev pub with_taken : Text → Takes → Rule → Rule
with_taken name takes.Word r = r
with_taken name (takes.WordFor called) r = record r { value_names = 1 }
with_taken name (takes.Text called) r = record r { long = Some name; value_names = 1 }
with_taken name (takes.Texts called) r = record r { long = Some name; value_names = 1; action = Some Append }
with_taken name (takes.Number called) r =
    record r { long = Some name; value_names = 1; parser = Some (parser.Signed (pos 0) (pos 4294967295)) }
with_taken name takes.Bytes r = record r { long = Some name; value_names = 1 }
with_taken name takes.Size r = record r { long = Some name; value_names = 1 }
with_taken name takes.Count r =
    record r { long = Some name; value_names = 1; parser = Some (parser.Signed (pos 0) (pos 4294967295)) }

-- the rule of an argument's row
abbrev pub rule : Argument → Rule
rule a = with_taken a.1.now a.2 (record (new_rule a.1.now) { required = is_needed a.0 })

-- an app with the arguments of these rows added
unfoldable pub with_rows : App → List Argument → App
with_rows a rows = fold (λ x r. with_rule x (rule r)) a rows

-- an app with the arguments of these groups of rows added
unfoldable pub with_groups : App → List (Bor (List Argument)) → App
with_groups a groups = fold (λ x g. with_rows x g.now) a groups

-- the command of a row
unfoldable pub command_row : CommandRow → App
command_row c = with_groups (new_app c.name.now) c.arguments.now

-- an app with the commands of these rows added
unfoldable pub with_commands : App → List CommandRow → App
with_commands a rows = fold (λ x r. with_subcommand x (command_row r).top) a rows

-- the program without its commands
abbrev pub bare_tool : App
bare_tool = on_top (λ s. record s { has_version = true; subcommand_required = true }) (new_app (codes "ubi_tool"))

-- the program with only those commands that print what an image file holds
unfoldable pub telling_tool : App
telling_tool = record { top = tool.top; subs = geometry ∷ list ∷ check ∷ show ∷ map ∷ [] }

-- the words of a command, by the names of its arguments
abbrev pub words_in : ArgMatches → List Row
words_in m = rows_of (found_of m)

-- the words of the command of this name are the request
abbrev pub IsAskedBy : Text → List Row → Request → Type 0
IsAskedBy name words r = (command_name r ≡ name) × Asks words r

-- the answer is one of these, or there is none
abbrev pub IsOneOf : {X : Type 0} → (X → Type 0) → Option X → Type 0
IsOneOf {X = X} P None = (x : X) → P x → ⊥
IsOneOf {X = X} P (Some x) = P x

-- the names of the commands
abbrev pub command_names : List (List ℕ)
command_names = mapped (λ s. s.name) commands
