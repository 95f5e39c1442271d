-- What is wrong with a line of a config by the lines above it.
use Rattle.std.specs.Prelude.{ℕ, ◌==◌, Bool, true, false, not, nat_le, List, [], ◌∷◌, count_by, reverse, Option, Some, None, is_some, option_and_then}
use Rattle.std.specs.Bool.{then_some}
use Rattle.std.specs.List.{list_any, take_while}
use Rattle.std.specs.Option.{option_or, option_map_or}
use Rattle.std.specs.Str.{str_eq_ignore_ascii_case}
use Rattle.ubi_media.specs.Fields.{same_bytes}
use Rattle.ubi_config.specs.declared.errors.ConfigCause.{ConfigCause}
use Rattle.ubi_config.specs.declared.errors.ConfigCause.TheVariants as cause
use Rattle.ubi_config.specs.declared.key.Key.{Key}
use Rattle.ubi_config.specs.declared.key.Key.TheVariants as key
use Rattle.ubi_config.specs.declared.line.Line.{Line}
use Rattle.ubi_config.specs.declared.line.Line.TheVariants as line

-- the first of several options that has a value
abbrev pub first_some : {X : Type 0} → List (Option X) → Option X
first_some [] = None
first_some (o ∷ os) = option_or o (first_some os)

-- the key that a line sets
abbrev pub key_in : Line → Option Key
key_in (line.Heading _ _) = None
key_in line.Mode = Some key.Mode
key_in (line.Image _) = Some key.Image
key_in (line.Id _) = Some key.Id
key_in (line.Size _) = Some key.Size
key_in (line.Kind _) = Some key.Kind
key_in (line.Name _) = Some key.Name
key_in line.Autoresize = Some key.Flags
key_in line.SkipCheck = Some key.Flags
key_in (line.Alignment _) = Some key.Alignment

-- whether a line sets a key
abbrev pub is_setting : Line → Bool
is_setting l = is_some (key_in l)

-- whether a line begins a section
abbrev pub is_heading : Line → Bool
is_heading l = not (is_setting l)

-- the place of a key among the keys
abbrev pub key_number : Key → ℕ
key_number key.Mode = 0
key_number key.Image = 1
key_number key.Id = 2
key_number key.Size = 3
key_number key.Kind = 4
key_number key.Name = 5
key_number key.Flags = 6
key_number key.Alignment = 7

-- whether a line sets this key
abbrev pub sets : Key → Line → Bool
sets k l = option_map_or (λ other. key_number other == key_number k) (key_in l) false

-- whether a line begins the section of a name, its letters in either case
abbrev pub is_titled : List ℕ → Line → Bool
is_titled name (line.Heading _ other) = str_eq_ignore_ascii_case other name
is_titled name _ = false

-- whether a line gives a number of a volume
abbrev pub gives_id : ℕ → Line → Bool
gives_id id (line.Id other) = other == id
gives_id id _ = false

-- whether a line gives a name of a volume
abbrev pub gives_name : List ℕ → Line → Bool
gives_name name (line.Name other) = same_bytes other name
gives_name name _ = false

-- whether a line lets its volume grow
abbrev pub is_autoresize : Line → Bool
is_autoresize line.Autoresize = true
is_autoresize _ = false

-- those of the lines above a line that set a key in its section, the nearest first
abbrev pub own : List Line → List Line
own above = take_while is_setting (reverse above)

-- how many sections a config has at most
abbrev pub most_sections : ℕ
most_sections = 128

-- what is wrong with a line that begins a section, by the lines above it
unfoldable pub heading_cause : List Line → List ℕ → Option ConfigCause
heading_cause above name =
    first_some (then_some (list_any (is_titled name) above) cause.Again
    ∷ then_some (nat_le most_sections (count_by is_heading above)) cause.TooMany ∷ [])

-- what is wrong with a line that sets a key, by the lines above it in all sections
abbrev pub shared_cause : List Line → Line → Option ConfigCause
shared_cause above (line.Id id) = then_some (list_any (gives_id id) above) cause.SameId
shared_cause above (line.Name name) = then_some (list_any (gives_name name) above) cause.SameName
shared_cause above line.Autoresize = then_some (list_any is_autoresize above) cause.Autoresize
shared_cause above _ = None

-- what is wrong with a line that sets a key, by the lines above it: in its section, or else in all
unfoldable pub setting_cause : List Line → Key → Line → Option ConfigCause
setting_cause above k l =
    first_some (then_some (not (list_any is_heading above)) cause.NoSection
    ∷ then_some (list_any (sets k) (own above)) cause.Again
    ∷ shared_cause above l ∷ [])

-- what is wrong with a line by those above it
unfoldable pub later_cause : List Line → Line → Option ConfigCause
later_cause above (line.Heading _ name) = heading_cause above name
later_cause above l = option_and_then (λ k. setting_cause above k l) (key_in l)
