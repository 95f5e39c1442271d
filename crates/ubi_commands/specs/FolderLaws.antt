-- How the config in the folder of `unpack` is read.
use Rattle.std.specs.Prelude.{◌≡◌, ℕ, List, None, Ok, Some, true}
use Rattle.std.specs.List.{AllByRecursion}
use Rattle.ubi_media.specs.Geometry.{IsGeometry}
use Rattle.ubi_scan.specs.Image.{Image}
use Rattle.ubi_volume.specs.Accepts.{Accepts}
use Rattle.ubi_volume.specs.Meant.{Meant}
use Rattle.ubi_volume.specs.Reading.{read_volume, volume_len}
use Rattle.ubi_config.specs.Config.{first_config_fault, sections_of}
use Rattle.ubi_config.specs.Written.{left_out, may_grow}
use Rattle.ubi_config.specs.WrittenLaws.{sections_written}
use Rattle.ubi_compose.specs.Normal.{normal_bytes}
use Rattle.ubi_writing.specs.Build.{Builds, image_path}
use Rattle.ubi_files.specs.Disk.{Files}
use Rattle.ubi_files.specs.declared.outcome.Outcome.{Outcome}
use Rattle.ubi_writing.specs.Unpack.{all_described, file_name, folder_config, listed}

-- the config of an accepted image has no fault, and its sections are those of the volumes that aren't left out
abbrev pub FolderConfigReads : Type 0
FolderConfigReads = (image : Image) (m : Meant) → IsGeometry image.sizes → Accepts image m
    → (first_config_fault (folder_config m) ≡ None)
    × (sections_of (folder_config m) ≡ sections_written m.sizes (all_described (volume_len m) (listed m)))

-- every volume is described
abbrev pub AreAllDescribed : Meant → Type 0
AreAllDescribed m =
    AllByRecursion (λ v. left_out (may_grow (all_described (volume_len m) (listed m))) v ≡ None)
    (all_described (volume_len m) (listed m))

-- the file of each volume, beside the config, holds what the volume reads
abbrev pub HoldVolumes : Files → List ℕ → Meant → Type 0
HoldVolumes d config m =
    AllByRecursion (λ e. (text : List ℕ) × (read_volume m e.0 ≡ Ok text) × (d.holds (image_path config (file_name e)) ≡ Some text))
    (listed m)

-- from the config of an accepted image, which describes each of its volumes, and from the files with what they read, `build` makes the
-- normal image again, if it ends with the status 0 over a disk on which it is known what each file holds
abbrev pub BuildsTheImage : Type 0
BuildsTheImage = (d e : Files) (config out : List ℕ) (image : Image) (m : Meant) (o : Outcome) (bytes : List ℕ)
    → IsGeometry image.sizes → Accepts image m → AreAllDescribed m → HoldVolumes d config m
    → Builds d e config out m.sizes (folder_config m) 0 m.image_seq o → o.status ≡ 0 → d.tells ≡ true → e.holds out ≡ Some bytes
    → bytes ≡ normal_bytes m
