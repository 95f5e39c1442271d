-- How an image file was opened.
use Rattle.std.specs.Prelude.{◌≡◌, ℕ, List, None, Option}
use Rattle.ubi_media.specs.Limits.{first_broken}
use Rattle.ubi_files.specs.Disk.{Files, IsJudgedOf}
use Rattle.ubi_files.specs.Dump.{Fits, FitsWhole, seen}
use Rattle.ubi_files.specs.Numbers.{sizes_of}
use Rattle.ubi_files.specs.OverFile.{IsRead}
use Rattle.ubi_files.specs.declared.dump.Dump.{Dump}
use Rattle.ubi_files.specs.declared.open_image.OpenImage.{OpenImage}
use Rattle.ubi_files.specs.declared.open_image.OpenImage.TheVariants as image

-- a source over the named file, none of whose reads has failed yet: it is promised to hold what the file holds
abbrev pub IsUnreadOf : Files → List ℕ → Option (List ℕ) → ℕ → Type 0
IsUnreadOf d path held failures = (failures ≡ 0) × (held ≡ d.holds path)

-- a dump was opened whose numbers break no limit, and the named file can be read as it: at places, by a source over that as it is
-- seen; or its bytes were read, and are those of the file that are judged, as they are seen
abbrev pub IsOpened : {S : Type 0} → (S → Type 0) → Files → List ℕ → Dump → OpenImage S → Type 0
IsOpened is d path dump (image.AtPlaces file) =
    (file.geometry ≡ sizes_of dump.numbers) × (first_broken (sizes_of dump.numbers) ≡ None) × is file.source × Fits d dump path
IsOpened is d path dump (image.Whole file) =
    (file.geometry ≡ sizes_of dump.numbers) × IsRead (sizes_of dump.numbers) file.bytes.items
    × IsJudgedOf (seen dump d) path (sizes_of dump.numbers) file.bytes.items × FitsWhole d dump path

-- the image was opened at places
abbrev pub IsAtPlaces : {S : Type 0} → OpenImage S → Type 0
IsAtPlaces (image.AtPlaces file) = Unit {0}
IsAtPlaces (image.Whole file) = ⊥

-- something that holds if the image was opened at places
abbrev pub WhereAtPlaces : {S : Type 0} → Type 0 → OpenImage S → Type 0
WhereAtPlaces fact (image.AtPlaces file) = fact
WhereAtPlaces fact (image.Whole file) = Unit {0}
