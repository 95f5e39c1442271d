-- The files into which volumes are unpacked.
use Rattle.std.specs.Prelude.{◌≡◌, ℕ, List, [], ◌∷◌, None, Option, Result, Some, codes, string_bytes}
use Rattle.std.specs.FinMap.{entries}
use Rattle.std.specs.Vec.{vec_items}
use Rattle.ubi_config.specs.Written.{config_text}
use Rattle.ubi_media.specs.Geometry.{Sizes}
use Rattle.ubi_volume.specs.Extract.{extent_in, extent_len}
use Rattle.ubi_volume.specs.Places.{Placed}
use Rattle.ubi_files.specs.Answer.{Gives, says}
use Rattle.ubi_files.specs.Lines.{file_line}
use Rattle.ubi_volume.specs.declared.errors.ReadError.{ReadError}
use Rattle.ubi_files.specs.Disk.{Files}
use Rattle.ubi_writing.specs.Unpack.{AreUnpacked, AreUnpackedUntil, Listed, all_described, config_path, file_path}
use Rattle.ubi_writing.specs.declared.folder_config.FolderConfig.{FolderConfig}
use Rattle.ubi_writing.specs.declared.unpack.VolumeFile.{VolumeFile}

-- the file of a volume in a folder: its path, and the line that is answered if it can't be written
pub record IsFileOf (dir : List ℕ) (e : Listed) (f : VolumeFile) : Type 0 where
  pub path : string_bytes f.path ≡ file_path dir e
  pub unwritten : Gives f.unwritten (says (file_line (codes "cannot write ") (file_path dir e)) 1)

-- the files of volumes, in order
abbrev pub AreFilesOf : List ℕ → List Listed → List VolumeFile → Type 0
AreFilesOf dir [] [] = Unit {0}
AreFilesOf dir (e ∷ es) (f ∷ fs) = IsFileOf dir e f × AreFilesOf dir es fs
AreFilesOf dir _ _ = ⊥

-- the config of places
abbrev pub config_in : Sizes → Placed → List ℕ
config_in s p = config_text s p.image_seq (all_described (λ id. extent_len (extent_in p id)) (entries p.records.of))

-- the config of a folder: its path, its text, and the line that is answered if it can't be written
pub record IsConfigOf (dir text : List ℕ) (f : FolderConfig) : Type 0 where
  pub path : string_bytes f.path ≡ config_path dir
  pub text_is : vec_items f.text ≡ text
  pub unwritten : Gives f.unwritten (says (file_line (codes "cannot write ") (config_path dir)) 1)

-- how unpacking volumes ends: each is unpacked, or only those before the one at a place, whose file can't be written
abbrev pub Ends : (ℕ → Result (List ℕ) ReadError) → List ℕ → List Listed → Files → Files → Option ℕ → Type 0
Ends read dir es old new None = AreUnpacked read dir es old new
Ends read dir es old new (Some i) = (e : Listed) × AreUnpackedUntil read dir es i e old new
