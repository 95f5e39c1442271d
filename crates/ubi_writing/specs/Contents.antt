-- What is asked of volumes, with the files that are to be their contents.
use Rattle.std.specs.Borrow.{Bor}
use Rattle.std.specs.List.{AllByRecursion}
use Rattle.std.specs.Option.{option_map_or}
use Rattle.std.specs.Prelude.{◌≡◌, ◌⊎◌, ℕ, ◌+◌, ◌++◌, Contains, Err, IfSome, List, [], ◌∷◌, MatchOption, None, Ok, Option, Some, fold, length, map, sum_by, unwrap_or}
use Rattle.std.specs.Str.{IsUtf8}
use Rattle.ubi_config.specs.Config.{first_config_fault, sections_of}
use Rattle.ubi_config.specs.Records.{record_in}
use Rattle.ubi_config.specs.declared.errors.ConfigCause.{ConfigCause}
use Rattle.ubi_config.specs.declared.errors.ConfigCause.TheVariants as cause
use Rattle.ubi_config.specs.declared.section.Section.{Section}
use Rattle.ubi_media.specs.Geometry.{Sizes}
use Rattle.ubi_media.specs.declared.record.VolumeRecord.{VolumeRecord}
use Rattle.ubi_scan.specs.Source.{WhereHeld, known_by}
use Rattle.ubi_files.specs.Answer.{Gives, says}
use Rattle.ubi_files.specs.Disk.{Files, IsJudgedOf, IsTextOf}
use Rattle.ubi_files.specs.Numbers.{sizes_of}
use Rattle.ubi_files.specs.OverFile.{IsRead, IsUnread}
use Rattle.ubi_files.specs.Row.{row_bytes}
use Rattle.ubi_files.specs.declared.numbers.Numbers.{Numbers}
use Rattle.ubi_files.specs.declared.outcome.Outcome.{Outcome}
use Rattle.ubi_change.specs.declared.edit.NewVolume.{NewVolume}
use Rattle.ubi_writing.specs.Asks.{AskedEdits, value_in}
use Rattle.ubi_writing.specs.Build.{config_line, image_path}
use Rattle.ubi_writing.specs.declared.asks.Ask.{Ask}
use Rattle.ubi_writing.specs.declared.asks.Ask.TheVariants as ask
use Rattle.ubi_writing.specs.declared.orders.Update.{Update}

-- the file at a path was opened: how many bytes it has, and what it holds, if that is known. It is read at places, and it is known what it
-- holds if that is known of the file at its path; or it was read to its end, as far as it isn't longer than the device
pub record IsOpenedAt (d : Files) (s : Sizes) (path : List ℕ) (len : ℕ) (held : Option (List ℕ)) : Type 0 where
  pub sized : IfSome held (λ all. length all ≡ len)
  pub of : (held ≡ d.holds path) ⊎ ((bytes : List ℕ) × (held ≡ Some bytes) × IsRead s bytes × IsJudgedOf d path s bytes)

-- a word that names a file for the contents of a volume, how many bytes the file has, and what it holds, if that is known
pub record Filled : Type 0 where
  pub word : Bor (List ℕ)
  pub len : ℕ
  pub held : Option (List ℕ)

-- that file was opened
abbrev pub IsFilled : Files → Sizes → Filled → Type 0
IsFilled d s f = IsOpenedAt d s (value_in f.word.now) f.len f.held

-- the words, each with its file
pub record AreFilled (d : Files) (s : Sizes) (words : List (Bor (List ℕ))) (fs : List Filled) : Type 0 where
  pub named : map (λ f. f.word) fs ≡ words
  pub held : AllByRecursion (IsFilled d s) fs

-- a section of a config, the size of its image file in bytes, if it names one, its record, and what the file holds, if that is known
pub record Imaged : Type 0 where
  pub section : Section
  pub len : Option ℕ
  pub entry : VolumeRecord
  pub held : Option (List ℕ)

-- the path of the image file of a section; that of the config, if it names none
abbrev pub section_path : List ℕ → Section → List ℕ
section_path config x = option_map_or (image_path config) x.image config

-- the image file of a section was opened, if it names one: its size, and what it holds, if that is known
abbrev pub IsImageOf : Files → Sizes → List ℕ → Section → Option ℕ → Option (List ℕ) → Type 0
IsImageOf d s config x len held = MatchOption x.image ((len ≡ None) × (held ≡ Some []))
    (λ image. (n : ℕ) × (len ≡ Some n) × IsOpenedAt d s (image_path config image) n held)

-- and the section gives this record for it
pub record IsImaged (d : Files) (s : Sizes) (config : List ℕ) (g : Imaged) : Type 0 where
  pub image : IsImageOf d s config g.section g.len g.held
  pub record_is : record_in s g.section g.len ≡ Ok g.entry

-- the sections, each with its file
pub record AreImaged (d : Files) (s : Sizes) (config : List ℕ) (sections : List Section) (gs : List Imaged) : Type 0 where
  pub named : map (λ g. g.section) gs ≡ sections
  pub held : AllByRecursion (IsImaged d s config) gs

-- how many bytes a section's volume is given
abbrev pub image_len : Imaged → ℕ
image_len g = unwrap_or g.len 0

-- how many bytes the files have together
abbrev pub all_bytes : List Filled → List Imaged → ℕ
all_bytes fs gs = sum_by (λ f. f.len) fs + sum_by image_len gs

-- what the files hold, one after the other, if it is known of each
abbrev pub all_held : List Filled → List Imaged → Option (List ℕ)
all_held fs gs = row_bytes (map (λ f. f.held) fs ++ map (λ g. g.held) gs)

-- the path of a config; it is empty, if there is none
abbrev pub config_path : Option (Bor (List ℕ)) → List ℕ
config_path config = option_map_or (λ p. p.now) config []

-- the paths of the files that are read: those of contents, in the order of the volumes that are written, and then that of the config
abbrev pub all_reads : Update → List Section → List (List ℕ)
all_reads u sections =
    map (λ w. value_in w.now) u.contents.now ++ map (section_path (config_path u.config)) sections ++ option_map_or (λ p. p.now ∷ []) u.config []

-- what is asked of volumes beside contents
abbrev pub named_asks : Update → List Ask
named_asks u = map ask.Rename u.names.now ++ map ask.Resize u.sizes.now ++ map ask.Remove u.removals.now

-- what is asked for by one more word, whose contents lie behind those before; and where the next lie
abbrev pub with_contents : List Ask × ℕ → Filled → List Ask × ℕ
with_contents before f = (before.0 ++ ask.Contents f.word before.1 f.len ∷ [], before.1 + f.len)

-- the volume of one more section, whose contents lie behind those before; and where the next lie
abbrev pub with_section : List NewVolume × ℕ → Imaged → List NewVolume × ℕ
with_section before g = (before.0 ++ record { entry = g.entry; start = before.1; len = image_len g } ∷ [], before.1 + image_len g)

-- all that is asked of volumes, with the paths of the files that are read
abbrev pub all_asked_edits : Update → List Section → List Filled → List Imaged → AskedEdits
all_asked_edits u sections fs gs =
    let asks = fold with_contents (named_asks u, 0) fs in
    record { asks = asks.0; volumes = (fold with_section ([], asks.1) gs).0; paths = all_reads u sections }

-- why the files aren't read: the line of one that can't be, or of a limit that the numbers break
abbrev pub IsUnfilled : Numbers → List (Bor (List ℕ)) → Outcome → Type 0
IsUnfilled numbers words o = (word : Bor (List ℕ)) × Contains words word × IsUnread numbers (value_in word.now) o

-- why a section gives no volume: the line of its image file, which can't be read, or has a path that isn't text; or that of the section,
-- which gives no record for a file of that size
pub data IsUnimaged (d : Files) (numbers : Numbers) (config : List ℕ) (x : Section) : Outcome → Type 0 where
  no_image : {o : Outcome} (image : List ℕ) → x.image ≡ Some image → IsUnread numbers (image_path config image) o
      → IsUnimaged d numbers config x o
  no_path : {o : Outcome} (image : List ℕ) → x.image ≡ Some image → (IsUtf8 image → ⊥) → Gives o (says (config_line x.line cause.Unfit) 1)
      → IsUnimaged d numbers config x o
  no_record : {o : Outcome} (len : Option ℕ) (held : Option (List ℕ)) (c : ConfigCause) → IsImageOf d (sizes_of numbers) config x len held
      → record_in (sizes_of numbers) x len ≡ Err c → Gives o (says (config_line x.line c) 1) → IsUnimaged d numbers config x o

-- what a command can answer that takes contents of volumes from the files that words and the sections of a config name: the line of
-- one that can't be read, or of a section that gives no volume; or the answer, whatever the files hold together that agrees with what was
-- read of them
pub data OfContents (d : Files) (numbers : Numbers) (words : List (Bor (List ℕ))) (config : List ℕ) (sections : List Section)
    (answers : List Filled → List Imaged → List ℕ → Outcome → Type 0) : Outcome → Type 0 where
  no_contents : {o : Outcome} → IsUnfilled numbers words o → OfContents d numbers words config sections answers o
  no_volume : {o : Outcome} (x : Section) → Contains sections x → IsUnimaged d numbers config x o
      → OfContents d numbers words config sections answers o
  contents : {o : Outcome} (fs : List Filled) (gs : List Imaged) (reads : List (ℕ × List ℕ)) → AreFilled d (sizes_of numbers) words fs
      → AreImaged d (sizes_of numbers) config sections gs → IfSome (all_held fs gs) (known_by (all_bytes fs gs) reads)
      → WhereHeld (known_by (all_bytes fs gs) reads) (λ bytes. answers fs gs bytes o) → OfContents d numbers words config sections answers o

-- the sections of a config, of which there are none without one
abbrev pub IsConfigOf : Files → Option (Bor (List ℕ)) → List Section → Type 0
IsConfigOf d config sections = MatchOption config (sections ≡ [])
    (λ path. (text : List ℕ) × IsTextOf d path.now text × (first_config_fault text ≡ None) × (sections ≡ sections_of text))

-- the line of the first fault of a config
abbrev pub IsFaultyLine : List ℕ → Outcome → Type 0
IsFaultyLine text o = (n : ℕ) × (c : ConfigCause) × (first_config_fault text ≡ Some (n, c)) × Gives o (says (config_line n c) 1)

-- why there are none: the line of a config that can't be read, or that of its first fault
pub data IsNoConfig (d : Files) (numbers : Numbers) (config : Option (Bor (List ℕ))) : Outcome → Type 0 where
  unread_config : {o : Outcome} (path : Bor (List ℕ)) → config ≡ Some path → IsUnread numbers path.now o → IsNoConfig d numbers config o
  faulty_config : {o : Outcome} (path : Bor (List ℕ)) (text : List ℕ) → config ≡ Some path → IsTextOf d path.now text → IsFaultyLine text o
      → IsNoConfig d numbers config o

-- what a command can answer that takes volumes from a config, if there is one: why it has no sections, or the answer for them
pub data OfConfig (d : Files) (numbers : Numbers) (config : Option (Bor (List ℕ))) (answers : List Section → Outcome → Type 0) : Outcome → Type 0 where
  no_sections : {o : Outcome} → IsNoConfig d numbers config o → OfConfig d numbers config answers o
  sections : {o : Outcome} (xs : List Section) → IsConfigOf d config xs → answers xs o → OfConfig d numbers config answers o
