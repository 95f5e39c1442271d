-- What building an image from a config and from the files that it names answers.
use Rattle.std.specs.Prelude.{◌≡◌, ◌≢◌, ℕ, ◌+◌, ◌/◌, ◌<◌, ◌≤◌, List, [], ◌∷◌, Contains, IfSome, MatchOption, None, Option, Some, Ok, Err, codes, get_or, length, map, option_map, take, unwrap_or}
use Rattle.std.specs.List.{AllByRecursion, filter_map}
use Rattle.std.specs.Path.{path_with_file_name}
use Rattle.std.specs.Str.{IsUtf8}
use Rattle.ubi_media.specs.Geometry.{Sizes}
use Rattle.ubi_media.specs.declared.record.VolumeRecord.{VolumeRecord}
use Rattle.ubi_scan.specs.Source.{known_by}
use Rattle.ubi_volume.specs.Wrote.{All, Wrote}
use Rattle.ubi_config.specs.Config.{first_config_fault, sections_of}
use Rattle.ubi_config.specs.ErrorTexts.{config_error_text}
use Rattle.ubi_config.specs.Records.{record_in}
use Rattle.ubi_config.specs.declared.errors.ConfigCause.{ConfigCause}
use Rattle.ubi_config.specs.declared.errors.ConfigCause.TheVariants as cause
use Rattle.ubi_config.specs.declared.errors.ConfigError.TheVariants as error
use Rattle.ubi_config.specs.declared.section.Section.{Section}
use Rattle.ubi_compose.specs.Building.{image_built}
use Rattle.ubi_compose.specs.Built.{HaveMeaning, IsRecipeError, Parts, most_blocks}
use Rattle.ubi_compose.specs.declared.errors.RecipeError.TheVariants as recipe
use Rattle.ubi_laid.specs.declared.part.Part.{Part}
use Rattle.ubi_volume.specs.declared.errors.MeaningCause.{MeaningCause}
use Rattle.ubi_files.specs.Answer.{Gives, says}
use Rattle.ubi_writing.specs.Compose.{meaning_line, room_line}
use Rattle.ubi_files.specs.Disk.{AllStay, Files, Holds, fresh}
use Rattle.ubi_writing.specs.Lines.{blocks_line}
use Rattle.ubi_files.specs.Lines.{file_line, refused_line}
use Rattle.ubi_files.specs.Row.{row_bytes}
use Rattle.ubi_files.specs.declared.outcome.Outcome.{Outcome}

-- the printed line for a line of a config that has a fault
abbrev pub config_line : ℕ → ConfigCause → List ℕ
config_line n c = refused_line (config_error_text (error.Refused n c))

-- the path of an image file: one that isn't absolute begins at the folder of the config
abbrev pub image_path : List ℕ → List ℕ → List ℕ
image_path config image = path_with_file_name config image

-- the paths of the image files that sections name, in order
abbrev pub image_paths : List ℕ → List Section → List (List ℕ)
image_paths config sections = filter_map (λ (x : Section). option_map (image_path config) x.image) sections

-- no image file that sections name lies at the path of the output
abbrev pub AreBesideOut : List ℕ → List ℕ → List Section → Type 0
AreBesideOut config out sections = AllByRecursion (λ path. path ≢ out) (image_paths config sections)

-- the printed line for a file that can't be read
abbrev pub IsUnreadLine : List ℕ → Outcome → Type 0
IsUnreadLine path o = Gives o (says (file_line (codes "cannot read ") path) 1)

-- a section, and the size of its image file in bytes, if it names one
abbrev pub Sized : Type 0
Sized = Section × Option ℕ

-- how many bytes the volume of a section is given
abbrev pub len_of : Sized → ℕ
len_of e = unwrap_or e.1 0

-- the length is that of the file that the section names, if it is known what that holds; there is none if it names no file
abbrev pub IsSized : Files → List ℕ → Sized → Type 0
IsSized d config e = MatchOption e.0.image (e.1 ≡ None)
    (λ image. (n : ℕ) × (e.1 ≡ Some n) × IfSome (d.holds (image_path config image)) (λ all. length all ≡ n))

-- the volume of a section, whose bytes begin at a place of the source
abbrev pub section_part : ℕ → Sized → VolumeRecord → Part
section_part start e r = record { id = e.0.id; entry = r; start = start; len = len_of e }

-- the volumes of sections, each with its bytes after those of the one before
abbrev pub ArePartsOf : Sizes → ℕ → List Sized → List Part → Type 0
ArePartsOf s start [] [] = Unit {0}
ArePartsOf s start (e ∷ es) (p ∷ ps) =
    (r : VolumeRecord) × (record_in s e.0 e.1 ≡ Ok r) × (p ≡ section_part start e r) × ArePartsOf s (start + len_of e) es ps
ArePartsOf s start _ _ = ⊥

-- what sections give: their volumes, and what the files with their bytes hold, in order
pub record AreGathered (d : Files) (s : Sizes) (config : List ℕ) (xs : List Section) (ps : List Part)
    (bytes : List (Option (List ℕ))) : Type 0 where
  pub sized : List Sized
  pub sections : map (λ e. e.0) sized ≡ xs
  pub sizes : AllByRecursion (IsSized d config) sized
  pub parts : ArePartsOf s 0 sized ps
  pub held : bytes ≡ map d.holds (image_paths config xs)

-- the volumes, with the geometry of the device and an image sequence number
abbrev pub numbered_parts : Sizes → ℕ → List Part → Parts
numbered_parts s seq parts = record { sizes = s; image_seq = seq; of = parts }

-- why a section gives no volume: the line of its image file, which can't be read, or is the output file, or has a path that isn't
-- text; or the line of the section, which gives no record for a file of that size
pub data IsNoVolume (d : Files) (s : Sizes) (config : List ℕ) (x : Section) : Outcome → Type 0 where
  no_image : {o : Outcome} (image : List ℕ) → x.image ≡ Some image → IsUnreadLine (image_path config image) o
      → IsNoVolume d s config x o
  no_path : {o : Outcome} (image : List ℕ) → x.image ≡ Some image → (IsUtf8 image → ⊥)
      → Gives o (says (config_line x.line cause.Unfit) 1) → IsNoVolume d s config x o
  no_record : {o : Outcome} (len : Option ℕ) (c : ConfigCause) → IsSized d config (x, len) → record_in s x len ≡ Err c
      → Gives o (says (config_line x.line c) 1) → IsNoVolume d s config x o

-- why sections give no volumes: why one of them gives none, when all before it do
pub record IsUngathered (d : Files) (s : Sizes) (config : List ℕ) (xs : List Section) (o : Outcome) : Type 0 where
  pub at : ℕ
  pub inside : at < length xs
  pub parts : List Part
  pub held : List (Option (List ℕ))
  pub before : AreGathered d s config (take at xs) parts held
  pub first : (x : Section) × (get_or xs at x ≡ x) × IsNoVolume d s config x o

-- the volumes have an image: they have a meaning together, and the device has room for all pieces and the spares
pub record HaveImage (ps : Parts) (spares : ℕ) : Type 0 where
  pub meaning : HaveMeaning ps
  pub room : most_blocks ps + spares ≤ ps.sizes.pebs

-- what is answered for the volumes, and what becomes of the files: how many eraseblocks the image has, which the output
-- received, whatever the files hold that agrees with what was read of them; or the line of volumes that have no meaning
-- together, of a device that is too small for them, of a file that can't be read, or of an output that can't be written
pub data BuildsParts (d e : Files) (config out : List ℕ) (sections : List Section) (ps : Parts) (held : Option (List ℕ)) (spares : ℕ)
    : Outcome → Type 0 where
  unmade : {o : Outcome} (c : MeaningCause) → IsRecipeError ps.sizes ps.of (recipe.Refused c) → Gives o (says (meaning_line c) 1)
      → AllStay d e → BuildsParts d e config out sections ps held spares o
  crowded : {o : Outcome} → HaveMeaning ps → ps.sizes.pebs < most_blocks ps + spares → Gives o (says room_line 1) → AllStay d e
      → BuildsParts d e config out sections ps held spares o
  built : {o : Outcome} (size n : ℕ) (reads : List (ℕ × List ℕ)) (received : Option (List ℕ))
      → HaveImage ps spares → IfSome held (known_by size reads)
      → Wrote (known_by size reads) (fresh d) received (image_built ps spares) All 0 n → Holds e out received
      → Gives o (says (blocks_line (n / ps.sizes.peb_size)) 0) → BuildsParts d e config out sections ps held spares o
  unread : {o : Outcome} (path : List ℕ) → HaveImage ps spares → Contains (config ∷ image_paths config sections) path
      → IsUnreadLine path o → BuildsParts d e config out sections ps held spares o
  unwritten : {o : Outcome} → HaveImage ps spares → Gives o (says (file_line (codes "cannot write ") out) 1)
      → BuildsParts d e config out sections ps held spares o

-- what the command answers for a config, and what becomes of the files
pub data Builds (d e : Files) (config out : List ℕ) (s : Sizes) (text : List ℕ) (spares seq : ℕ) : Outcome → Type 0 where
  faulty : {o : Outcome} (n : ℕ) (c : ConfigCause) → first_config_fault text ≡ Some (n, c) → Gives o (says (config_line n c) 1)
      → AllStay d e → Builds d e config out s text spares seq o
  ungathered : {o : Outcome} → first_config_fault text ≡ None → IsUngathered d s config (sections_of text) o → AllStay d e → Builds d e config out s text spares seq o
  gathered : {o : Outcome} (parts : List Part) (held : List (Option (List ℕ))) → first_config_fault text ≡ None
      → AreGathered d s config (sections_of text) parts held → AreBesideOut config out (sections_of text)
      → BuildsParts d e config out (sections_of text) (numbered_parts s seq parts) (row_bytes held) spares o
      → Builds d e config out s text spares seq o
