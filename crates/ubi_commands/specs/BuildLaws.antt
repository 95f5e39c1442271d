-- What the volumes of an image that was built from a config read.
use Rattle.std.specs.Prelude.{◌≡◌, ℕ, ◌*◌, IsSome, List, [], Ok, Option, Some, length, option_map, true}
use Rattle.std.specs.List.{AllByRecursion}
use Rattle.std.specs.Option.{option_map_or}
use Rattle.ubi_media.specs.Geometry.{Sizes}
use Rattle.ubi_media.specs.Record.{usable}
use Rattle.ubi_media.specs.declared.record.VolumeRecord.{VolumeRecord}
use Rattle.ubi_scan.specs.Image.{image_of}
use Rattle.ubi_volume.specs.Accepts.{Accepts}
use Rattle.ubi_volume.specs.Meant.{Meant}
use Rattle.ubi_volume.specs.Reading.{read_volume}
use Rattle.ubi_config.specs.Config.{sections_of}
use Rattle.ubi_config.specs.Records.{record_in}
use Rattle.ubi_config.specs.declared.section.Section.{Section}
use Rattle.ubi_compose.specs.BuiltLaws.{text_read}
use Rattle.ubi_writing.specs.Build.{Builds, image_path}
use Rattle.ubi_files.specs.Disk.{Files}
use Rattle.ubi_files.specs.declared.outcome.Outcome.{Outcome}

-- what the file of a section's `image` key holds, if that is known; no byte if the section has no such key
abbrev pub file_of : Files → List ℕ → Section → Option (List ℕ)
file_of d config x = option_map_or (λ image. d.holds (image_path config image)) x.image (Some [])

-- it is known what each file that sections name holds
abbrev pub AreTold : Files → List ℕ → List Section → Type 0
AreTold d config xs = AllByRecursion (λ x. IsSome (file_of d config x)) xs

-- the volume of a section reads what the file of its `image` key holds and, if it is dynamic, 0xFF after that to the end of
-- what it reserves
pub record ReadsItsFile (d : Files) (config : List ℕ) (s : Sizes) (m : Meant) (x : Section) : Type 0 where
  pub file : List ℕ
  pub held : file_of d config x ≡ Some file
  pub entry : VolumeRecord
  pub recorded : record_in s x (option_map (λ _. length file) x.image) ≡ Ok entry
  pub reads : read_volume m x.id ≡ Ok (text_read entry.kind (entry.reserved * usable s entry) file)

-- if a build ends with the status 0, over a disk on which it is known what each file holds, the output holds an image that is
-- accepted, and each section's volume reads its file
abbrev pub BuildReads : Type 0
BuildReads = (d e : Files) (config out : List ℕ) (s : Sizes) (text : List ℕ) (spares seq : ℕ) (o : Outcome) (image : List ℕ)
    → Builds d e config out s text spares seq o → o.status ≡ 0 → d.tells ≡ true → AreTold d config (sections_of text)
    → e.holds out ≡ Some image
    → (m : Meant) × Accepts (image_of s image) m × (m.image_seq ≡ seq) × AllByRecursion (ReadsItsFile d config s m) (sections_of text)
