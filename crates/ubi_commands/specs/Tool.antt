-- What commands take, and what else their words have to say.
use Rattle.std.specs.Prelude.{◌≡◌, ◌∷◌, ◌++◌, ◌&&◌, ◌||◌, ◌⊎◌, [], Bool, List, Option, Some, codes, is_some, not, pos, true, ℕ}
use Rattle.std.specs.List.{list_all, list_any}
use Rattle.std.specs.Option.{ForSome, option_map_or}
use Rattle.std.specs.Str.{bytes_eq}
use Rattle.clap.specs.Simple.{Shape, new_rule, new_shape}
use Rattle.clap.specs.Walk.{Row, Rule, Text, first_of}
use Rattle.clap.specs.declared.builder.action.ArgAction.TheVariants.{Append}
use Rattle.clap.specs.declared.builder.value_parser.ValueParser.TheVariants as parser
use Rattle.ubi_config.specs.Words.{most_bytes}
use Rattle.ubi_files.specs.BadBlocks.{is_block_list}
use Rattle.ubi_words.specs.Words.{most_number}
use Rattle.ubi_writing.specs.ByteNumbers.{bytes_within}
use Rattle.ubi_commands.specs.CommandLine.{gives_word, gives_no_geometry}

-- an argument that has to be given
abbrev pub needed : Rule → Rule
needed r = record r { required = true }

-- an option that takes a text
abbrev pub option : Text → Rule
option name = record (new_rule name) { long = Some name; value_names = 1 }

-- an option that takes a text, and may be given more than once
abbrev pub texts : Text → Rule
texts name = record (option name) { action = Some Append }

-- an option that takes a number of 32 bits
abbrev pub number : Text → Rule
number name = record (option name) { parser = Some (parser.Signed (pos 0) (pos 4294967295)) }

-- a size that has to be given, or may be left out; it takes a text, as each number of bytes
abbrev pub size : Bool → Text → Rule
size need name = record (option name) { required = need }

-- the numbers of a geometry; the two sizes have to be given, or may be left out
abbrev pub numbers : Bool → List Rule
numbers need = size need (codes "peb") ∷ size need (codes "page") ∷ option (codes "vid") ∷ option (codes "data")
    ∷ number (codes "pebs") ∷ []

-- the option with the file or the folder to write
abbrev pub output : Rule
output = needed (option (codes "out"))

-- the option with the number of a volume
abbrev pub volume : Rule
volume = needed (number (codes "id"))

-- a command, with what it takes beside the numbers
abbrev pub command : Bool → Text → List Rule → Shape
command need name rules = record (new_shape name) { rules = numbers need ++ rules }

-- the option that names the format of the answer
abbrev pub answer_format : Rule
answer_format = option (codes "format")

-- the word that names an image file
abbrev pub image_file : Rule
image_file = needed (new_rule (codes "IMAGE"))

-- the option that lists bad eraseblocks
abbrev pub bad_list : Rule
bad_list = option (codes "bad")

-- the word that names an image file, and the options that say which part of it is the image
abbrev pub image_part : List Rule
image_part = image_file ∷ option (codes "start") ∷ option (codes "length") ∷ []

-- a command over an image file, whose pages may have out-of-band bytes, and whose bad eraseblocks may be listed
abbrev pub on_image : Bool → Text → List Rule → Shape
on_image need name rules = command need name (image_part ++ option (codes "oob") ∷ bad_list ∷ rules)

-- the options of a plan, all of which may be left out: the steps to do, what is said about Blank eraseblocks, and the file for
-- the pages
abbrev pub plan_options : List Rule
plan_options = number (codes "stop") ∷ option (codes "blank") ∷ option (codes "pages") ∷ []

-- the options of edits of whole volumes: their contents, a config of such, names and sizes, and which are removed
abbrev pub edit_options : List Rule
edit_options = texts (codes "write") ∷ option (codes "config") ∷ texts (codes "rename") ∷ texts (codes "resize") ∷ texts (codes "remove") ∷ []

-- the words of `extract` name the volume exactly once
abbrev pub HasOneVolume : Option (Text × List Row) → Type 0
HasOneVolume named = (words : List Row) → named ≡ Some (codes "extract", words)
    → is_some (first_of (codes "name") words) ≡ not (is_some (first_of (codes "id") words))

-- whether a command reads a dump whose bad eraseblocks the words may list: all but three do
abbrev pub reads_dump : Text → Bool
reads_dump name = not (list_any (bytes_eq name) (codes "geometry" ∷ codes "compose" ∷ codes "build" ∷ []))

-- in the words of a command over a dump, what lists bad eraseblocks is a list
abbrev pub HasBlockList : Option (Text × List Row) → Type 0
HasBlockList named = (name : Text) (words : List Row) → named ≡ Some (name, words) → reads_dump name ≡ true
    → ForSome (first_of (codes "bad") words) (λ list. is_block_list list ≡ true)

-- the commands that plan
abbrev pub plans : Text → Bool
plans name = list_any (bytes_eq name) (codes "change" ∷ codes "rename" ∷ codes "update" ∷ [])

-- the commands that find the geometry of a dump if the words give none
abbrev pub finds : Text → Bool
finds name = reads_dump name && not (plans name)

-- the words of such a command give both sizes, or nothing of a geometry except how many eraseblocks there are
abbrev pub HasGeometryOrNone : Option (Text × List Row) → Type 0
HasGeometryOrNone named = (name : Text) (words : List Row) → named ≡ Some (name, words) → finds name ≡ true
    → ((gives_word words (codes "peb") && gives_word words (codes "page")) || gives_no_geometry words) ≡ true

-- in the words of a command that plans, what is said about Blank eraseblocks is that they are kept
abbrev pub HasBlankWord : Option (Text × List Row) → Type 0
HasBlankWord named = (name : Text) (words : List Row) → named ≡ Some (name, words) → plans name ≡ true
    → ForSome (first_of (codes "blank") words) (λ word. word ≡ codes "keep")

-- the commands that answer in a format
abbrev pub formats : Text → Bool
formats name = list_any (bytes_eq name) (codes "geometry" ∷ codes "list" ∷ codes "check" ∷ codes "same" ∷ codes "diff" ∷ [])

-- in the words of such a command, what names the format is the word of one
abbrev pub HasFormatWord : Option (Text × List Row) → Type 0
HasFormatWord named = (name : Text) (words : List Row) → named ≡ Some (name, words) → formats name ≡ true
    → ForSome (first_of (codes "format") words) (λ word. (word ≡ codes "text") ⊎ (word ≡ codes "json"))

-- what the words give under a name, if they give anything, is a number of bytes, no more than the largest
abbrev pub gives_bytes : ℕ → List Row → Text → Bool
gives_bytes largest words name = option_map_or (λ word. is_some (bytes_within largest word)) (first_of name words) true

-- what the words give for the sizes and offsets of a geometry are numbers of bytes
abbrev pub gives_sizes : List Row → Bool
gives_sizes words = list_all (gives_bytes most_number words) (codes "peb" ∷ codes "page" ∷ codes "vid" ∷ codes "data" ∷ [])

-- what the words give for the place and the length of a part of a file are numbers of bytes
abbrev pub gives_part : List Row → Bool
gives_part words = list_all (gives_bytes most_bytes words) (codes "start" ∷ codes "length" ∷ [])

-- the commands that take a geometry: all but one
abbrev pub takes_geometry : Text → Bool
takes_geometry name = not (bytes_eq name (codes "geometry"))

-- in the words of such a command its sizes and offsets are numbers of bytes
abbrev pub HasByteSizes : Option (Text × List Row) → Type 0
HasByteSizes named = (name : Text) (words : List Row) → named ≡ Some (name, words) → takes_geometry name ≡ true
    → gives_sizes words ≡ true

-- the commands that read a part of an image file: all but two
abbrev pub takes_part : Text → Bool
takes_part name = not (list_any (bytes_eq name) (codes "compose" ∷ codes "build" ∷ []))

-- in the words of such a command the part is given by numbers of bytes
abbrev pub HasPart : Option (Text × List Row) → Type 0
HasPart named = (name : Text) (words : List Row) → named ≡ Some (name, words) → takes_part name ≡ true
    → gives_part words ≡ true

-- in the words of a command over a dump the out-of-band bytes of a page are given by a number of bytes
abbrev pub HasOob : Option (Text × List Row) → Type 0
HasOob named = (name : Text) (words : List Row) → named ≡ Some (name, words) → reads_dump name ≡ true
    → gives_bytes most_number words (codes "oob") ≡ true

-- the words say what their command can do, beyond what the command line knows
pub record Mean (named : Option (Text × List Row)) : Type 0 where
  pub volume : HasOneVolume named
  pub list : HasBlockList named
  pub blank : HasBlankWord named
  pub geometry : HasGeometryOrNone named
  pub format : HasFormatWord named
  pub sizes : HasByteSizes named
  pub part : HasPart named
  pub oob : HasOob named
