-- How the files are opened that are to be contents of volumes, in order.
use Rattle.std.specs.Borrow.{Bor}
use Rattle.std.specs.Prelude.{◌≡◌, ℕ, ◌+◌, ◌++◌, Contains, List, [], Ok, Option, Some, fold, map, string_bytes, sum_by, unwrap_or}
use Rattle.ubi_config.specs.Records.{record_in}
use Rattle.ubi_config.specs.declared.section.Section.{Section}
use Rattle.ubi_media.specs.Geometry.{Sizes}
use Rattle.ubi_files.specs.Disk.{Files}
use Rattle.ubi_files.specs.Numbers.{sizes_of}
use Rattle.ubi_files.specs.declared.numbers.Numbers.{Numbers}
use Rattle.ubi_files.specs.declared.outcome.Outcome.{Outcome}
use Rattle.ubi_writing.specs.Asks.{value_in}
use Rattle.ubi_writing.specs.Contents.{AreFilled, AreImaged, Filled, Imaged, IsConfigOf, IsImageOf, IsNoConfig, IsUnfilled, IsUnimaged, all_asked_edits, all_bytes, all_reads, config_path, image_len, named_asks, section_path, with_contents, with_section}
use Rattle.ubi_writing.specs.declared.contents.Contents.{Contents}
use Rattle.ubi_writing.specs.declared.config_volumes.Image.{Image}
use Rattle.ubi_writing.specs.declared.contents.ContentsFile.{ContentsFile}
use Rattle.ubi_writing.specs.declared.contents.ContentsFile.TheVariants as file
use Rattle.ubi_files.specs.declared.file_row.SizedFile.{SizedFile}
use Rattle.ubi_scan.specs.declared.placed.PlacedFile.{Ghosts}
use Rattle.ubi_writing.specs.declared.orders.Update.{Update}

-- what a file of contents holds, if it is known, by what is known of one that is read at places
abbrev pub bytes_in : {F : Type 0} {g : Ghosts F} → (SizedFile F g → Option (List ℕ)) → ContentsFile F g → Option (List ℕ)
bytes_in placed (file.Placed f) = placed f
bytes_in placed (file.Held bytes) = Some bytes.items

-- what is asked for so far, with the files of these words, and what they hold, as far as it is known
pub record IsFilledBy (d : Files) (s : Sizes) (u : Update) (words : List (Bor (List ℕ))) (c : Contents) (bytes : List (Option (List ℕ)))
    : Type 0 where
  pub filled : List Filled
  pub are : AreFilled d s words filled
  pub asks : (c.asks.items, c.total) ≡ fold with_contents (named_asks u, 0) filled
  pub volumes : c.volumes.items ≡ []
  pub total : c.total ≡ sum_by (λ f. f.len) filled
  pub held : bytes ≡ map (λ f. f.held) filled
  pub paths : map string_bytes c.paths.items ≡ map (λ w. value_in w.now) words

-- what is asked for by sections, too, after what was asked for before
pub record IsImagedBy (d : Files) (s : Sizes) (config : List ℕ) (xs : List Section) (c later : Contents) (before after : List (Option (List ℕ)))
    : Type 0 where
  pub imaged : List Imaged
  pub are : AreImaged d s config xs imaged
  pub asks : later.asks ≡ c.asks
  pub volumes : (later.volumes.items, later.total) ≡ fold with_section (c.volumes.items, c.total) imaged
  pub total : later.total ≡ c.total + sum_by image_len imaged
  pub held : after ≡ before ++ map (λ g. g.held) imaged
  pub paths : map string_bytes later.paths.items ≡ map string_bytes c.paths.items ++ map (section_path config) xs

-- the volume of a section, and its file: how many bytes this has, and what it holds, if that is known
pub record IsVolumeOf (d : Files) (s : Sizes) (config : List ℕ) (x : Section) (v : Image) (len : ℕ) (held : Option (List ℕ)) : Type 0 where
  pub given : Option ℕ
  pub image : IsImageOf d s config x given held
  pub record_is : record_in s x given ≡ Ok v.entry
  pub size : len ≡ unwrap_or given 0
  pub path : string_bytes v.path ≡ section_path config x

-- all that is asked for, with the files of all contents, and what these hold, as far as it is known
pub record IsAllAsked (d : Files) (numbers : Numbers) (u : Update) (c : Contents) (bytes : List (Option (List ℕ))) : Type 0 where
  pub sections : List Section
  pub config : IsConfigOf d u.config sections
  pub filled : List Filled
  pub are : AreFilled d (sizes_of numbers) u.contents.now filled
  pub imaged : List Imaged
  pub are_imaged : AreImaged d (sizes_of numbers) (config_path u.config) sections imaged
  pub asks : c.asks.items ≡ (all_asked_edits u sections filled imaged).asks
  pub volumes : c.volumes.items ≡ (all_asked_edits u sections filled imaged).volumes
  pub total : c.total ≡ all_bytes filled imaged
  pub held : bytes ≡ map (λ f. f.held) filled ++ map (λ g. g.held) imaged
  pub paths : map string_bytes c.paths.items ≡ all_reads u sections

-- why it isn't known what is asked for: why there are no sections, or a file isn't read, or a section gives no volume
pub data IsUnaskedBy (d : Files) (numbers : Numbers) (u : Update) : Outcome → Type 0 where
  by_config : {o : Outcome} → IsNoConfig d numbers u.config o → IsUnaskedBy d numbers u o
  by_word : {o : Outcome} (xs : List Section) → IsConfigOf d u.config xs → IsUnfilled numbers u.contents.now o → IsUnaskedBy d numbers u o
  by_section : {o : Outcome} (xs : List Section) → IsConfigOf d u.config xs → (x : Section) → Contains xs x
      → IsUnimaged d numbers (config_path u.config) x o → IsUnaskedBy d numbers u o
