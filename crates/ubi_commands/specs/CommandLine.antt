-- What the words of a command ask for.
use Rattle.std.specs.Borrow.{Bor}
use Rattle.std.specs.Bool.{then_some}
use Rattle.std.specs.Option.{ForSome}
use Rattle.std.specs.Prelude.{IsTrue, ◌≡◌, ◌↔◌, ◌<◌, ◌^◌, ◌&&◌, List, [], None, Option, Some, Bool, codes, is_some, map, not, option_and_then, option_map, true, unwrap_or, ℕ}
use Rattle.std.specs.Str.Parse.{IsNumeral, digits_value, without_leading_plus}
use Rattle.clap.specs.Walk.{Row, all_of, first_of, one_of}
use Rattle.ubi_files.specs.BadBlocks.{is_block_list}
use Rattle.ubi_config.specs.Words.{most_bytes}
use Rattle.ubi_words.specs.Words.{most_number}
use Rattle.ubi_writing.specs.ByteNumbers.{bytes_within}
use Rattle.ubi_reading.specs.Formats.{format_word}
use Rattle.ubi_reading.specs.declared.format.Format.{Format}
use Rattle.ubi_dumps.specs.declared.asked.Asked.{Asked}
use Rattle.ubi_dumps.specs.declared.asked.Asked.TheVariants as asked
use Rattle.ubi_writing.specs.declared.orders.Change.{Change}
use Rattle.ubi_files.specs.declared.dump.Dump.{Dump}
use Rattle.ubi_writing.specs.declared.orders.Extract.{Extract}
use Rattle.ubi_writing.specs.declared.orders.NewImage.{NewImage}
use Rattle.ubi_dumps.specs.declared.asked.Paths.{Paths}
use Rattle.ubi_writing.specs.declared.orders.Plan.{Plan}
use Rattle.ubi_writing.specs.declared.orders.Rename.{Rename}
use Rattle.ubi_writing.specs.declared.orders.Update.{Update}
use Rattle.ubi_dumps.specs.declared.asked.Sought.{Sought}
use Rattle.ubi_files.specs.declared.numbers.Numbers.{Numbers}
use Rattle.ubi_files.specs.declared.view.FilePart.{FilePart}
use Rattle.ubi_writing.specs.declared.volume_key.VolumeKey.{VolumeKey}
use Rattle.ubi_writing.specs.declared.volume_key.VolumeKey.TheVariants as key

-- the words give this text under the name
abbrev pub HasText : List Row → List ℕ → Bor (List ℕ) → Type 0
HasText words name text = first_of name words ≡ Some text.now

-- this is the text that the words give under the name, if they give one
abbrev pub MayHaveText : List Row → List ℕ → Option (Bor (List ℕ)) → Type 0
MayHaveText words name text = option_map (λ t. t.now) text ≡ first_of name words

-- these are the texts that the words give under the name, in order
abbrev pub HasTexts : List Row → List ℕ → List (Bor (List ℕ)) → Type 0
HasTexts words name texts = map (λ t. t.now) texts ≡ unwrap_or (all_of name words) []

-- the words give this number of 32 bits in decimal, where a plus may stand first
abbrev pub HasNumber : List Row → List ℕ → ℕ → Type 0
HasNumber words name n = (digits : List ℕ)
    × (option_map without_leading_plus (one_of name words) ≡ Some digits)
    × IsNumeral 10 digits × (n ≡ digits_value 10 digits) × (n < 2 ^ 32)

-- this is the number of 32 bits that the words give, if they give one
abbrev pub MayHaveNumber : List Row → List ℕ → Option ℕ → Type 0
MayHaveNumber words name number = (n : ℕ) → (number ≡ Some n) ↔ HasNumber words name n

-- the words give this number of 32 bits; or they give none, and it is the default
abbrev pub HasNumberOr : ℕ → List Row → List ℕ → ℕ → Type 0
HasNumberOr default words name n = (number : Option ℕ) × MayHaveNumber words name number
    × (n ≡ unwrap_or number default)

-- the words give this number of bytes, no more than the largest
abbrev pub HasBytes : ℕ → List Row → List ℕ → ℕ → Type 0
HasBytes largest words name n = option_and_then (bytes_within largest) (first_of name words) ≡ Some n

-- this is the number of bytes that the words give, if they give anything; and then what they give is such a number
abbrev pub MayHaveBytes : ℕ → List Row → List ℕ → Option ℕ → Type 0
MayHaveBytes largest words name number = option_map (bytes_within largest) (first_of name words) ≡ option_map Some number

-- the words give this number of bytes; or they give nothing, and it is the default
abbrev pub HasBytesOr : ℕ → ℕ → List Row → List ℕ → ℕ → Type 0
HasBytesOr default largest words name n = (number : Option ℕ) × MayHaveBytes largest words name number
    × (n ≡ unwrap_or number default)

-- the words give these numbers of a geometry
abbrev pub AsksNumbers : List Row → Numbers → Type 0
AsksNumbers words numbers = HasBytes most_number words (codes "peb") numbers.peb_size
    × HasBytes most_number words (codes "page") numbers.page
    × MayHaveBytes most_number words (codes "vid") numbers.vid_offset
    × MayHaveBytes most_number words (codes "data") numbers.data_offset
    × MayHaveNumber words (codes "pebs") numbers.pebs

-- the words give this part of a file: all of it from its beginning on, if they don't mention a part
abbrev pub AsksPart : List Row → FilePart → Type 0
AsksPart words part = (start : Option ℕ) × MayHaveBytes most_bytes words (codes "start") start × (part.start ≡ unwrap_or start 0)
    × MayHaveBytes most_bytes words (codes "length") part.length

-- the words give this dump: its numbers, its part of the file, how many out-of-band bytes a page has, which is none if they don't
-- say, and the list of its bad eraseblocks, if there is one
abbrev pub AsksDump : List Row → Dump → Type 0
AsksDump words dump = AsksNumbers words dump.numbers
    × AsksPart words dump.part
    × HasBytesOr 0 most_number words (codes "oob") dump.oob
    × MayHaveText words (codes "bad") dump.bad
    × ForSome dump.bad (λ list. is_block_list list.now ≡ true)
    × IsTrue dump.counts_before

-- the words give something under the name
abbrev pub gives_word : List Row → List ℕ → Bool
gives_word words name = is_some (first_of name words)

-- the words say nothing about a geometry except how many eraseblocks there are
abbrev pub gives_no_geometry : List Row → Bool
gives_no_geometry words =
    not (gives_word words (codes "peb")) && not (gives_word words (codes "page")) && not (gives_word words (codes "vid"))
    && not (gives_word words (codes "data")) && not (gives_word words (codes "oob"))

-- the words give this dump without a geometry: its part of the file, how many eraseblocks there are, and the list of its bad
-- eraseblocks, if there is one
abbrev pub AsksSought : List Row → Sought → Type 0
AsksSought words sought = AsksPart words sought.part
    × MayHaveNumber words (codes "pebs") sought.pebs
    × MayHaveText words (codes "bad") sought.bad
    × ForSome sought.bad (λ list. is_block_list list.now ≡ true)

-- the words say how a dump is read, or leave that to its headers
abbrev pub AsksAsked : List Row → Asked → Type 0
AsksAsked words (asked.Given dump) = AsksDump words dump
AsksAsked words (asked.Sought sought) = (gives_no_geometry words ≡ true) × AsksSought words sought

-- the words name this volume: by its number or by its name, but not by both
abbrev pub AsksKey : List Row → VolumeKey → Type 0
AsksKey words (key.Id id) = HasNumber words (codes "id") id × (first_of (codes "name") words ≡ None)
AsksKey words (key.Name name) = HasText words (codes "name") name × (first_of (codes "id") words ≡ None)

-- the words give these paths
abbrev pub AsksPaths : List Row → Paths → Type 0
AsksPaths words paths = HasText words (codes "IMAGE") paths.image × HasText words (codes "out") paths.out

-- the words give this volume and these paths
abbrev pub AsksExtract : List Row → Extract → Type 0
AsksExtract words extract = AsksPaths words extract.paths × AsksKey words extract.key

-- the words give this image to make, from the file under the name
abbrev pub AsksNewImage : List Row → List ℕ → NewImage → Type 0
AsksNewImage words name new = HasText words name new.from × HasText words (codes "out") new.out
    × HasNumberOr 0 words (codes "spares") new.spares × HasNumberOr 0 words (codes "seq") new.image_seq

-- the words say this about Blank eraseblocks: that they are kept, or nothing
abbrev pub AsksBlank : List Row → Bool → Type 0
AsksBlank words keeps = first_of (codes "blank") words ≡ then_some keeps (codes "keep")

-- the words name this format; if they name none, it is that of lines
abbrev pub AsksFormat : List Row → Format → Type 0
AsksFormat words format = unwrap_or (first_of (codes "format") words) (codes "text") ≡ format_word format

-- the words give this plan
abbrev pub AsksPlan : List Row → Plan → Type 0
AsksPlan words plan = AsksPaths words plan.paths
    × MayHaveNumber words (codes "stop") plan.stop
    × AsksBlank words plan.keeps_blank
    × MayHaveText words (codes "pages") plan.pages

-- the words give this change
abbrev pub AsksChange : List Row → Change → Type 0
AsksChange words change = AsksPlan words change.plan
    × HasNumber words (codes "id") change.id
    × HasNumber words (codes "lnum") change.lnum
    × HasText words (codes "from") change.from

-- the words give this rename
abbrev pub AsksRename : List Row → Rename → Type 0
AsksRename words rename = AsksPlan words rename.plan
    × HasNumber words (codes "id") rename.id
    × HasText words (codes "name") rename.name

-- the words give these edits
abbrev pub AsksUpdate : List Row → Update → Type 0
AsksUpdate words update = AsksPlan words update.plan
    × HasTexts words (codes "rename") update.names.now
    × HasTexts words (codes "resize") update.sizes.now
    × HasTexts words (codes "remove") update.removals.now
    × HasTexts words (codes "write") update.contents.now
    × MayHaveText words (codes "config") update.config
