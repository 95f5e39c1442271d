-- What is unpacked from an image: what each of its volumes reads, into a file of its own.
use Rattle.std.specs.Prelude.{◌≡◌, ℕ, ◌==◌, if◌then◌else◌, List, [], ◌∷◌, ◌++◌, Option, Some, Result, Ok, Err, codes, decimal, is_ok, length, map, nat_le, slice_get, take}
use Rattle.std.specs.Bool.{then_some}
use Rattle.std.specs.FinMap.{entries}
use Rattle.std.specs.Io.KnownBytes.{Appends}
use Rattle.std.specs.List.{flat_map, list_all}
use Rattle.ubi_media.specs.Geometry.{Sizes}
use Rattle.ubi_media.specs.declared.record.VolumeRecord.{VolumeRecord}
use Rattle.ubi_media.specs.declared.refusal.Refusal.{Refusal}
use Rattle.ubi_scan.specs.Image.{Image, image_of}
use Rattle.ubi_scan.specs.Source.{Agreed, Source, WhereHeld}
use Rattle.ubi_scan.specs.declared.errors.StreamError.TheVariants as stream
use Rattle.ubi_volume.specs.Accepts.{Accepts, Refuses}
use Rattle.ubi_volume.specs.Meant.{Meant, records_of}
use Rattle.ubi_volume.specs.Places.{ArePlacesError, ArePlacesOf, Placed}
use Rattle.ubi_volume.specs.Reading.{read_volume, volume_len}
use Rattle.ubi_volume.specs.declared.block.Amount.{Amount}
use Rattle.ubi_volume.specs.declared.block.Amount.TheVariants as amount
use Rattle.ubi_volume.specs.declared.errors.ReadError.{ReadError}
use Rattle.ubi_volume.specs.declared.errors.ReadError.TheVariants as error
use Rattle.ubi_config.specs.Written.{config_text}
use Rattle.ubi_config.specs.declared.volume.ConfigVolume.{ConfigVolume}
use Rattle.ubi_files.specs.Answer.{Gives, says}
use Rattle.ubi_files.specs.Disk.{AllStay, Files, IsKept, OthersStay, fresh}
use Rattle.ubi_files.specs.Lines.{file_line, refusal_line}
use Rattle.ubi_words.specs.Shown.{shown, byte_shown}
use Rattle.ubi_dumps.specs.Lines.{amount_word}
use Rattle.ubi_files.specs.declared.outcome.Outcome.{Outcome}

-- a record of a volume table, after the number of its volume
abbrev pub Listed : Type 0
Listed = ℕ × VolumeRecord

-- a byte of a volume's name in the name of its file: as it is shown, except a slash, which is given by its digits
abbrev pub file_byte : ℕ → List ℕ
file_byte b = if b == 0x2F then codes "\\x2f" else byte_shown b

-- the number of a volume, a hyphen, and the volume's name
abbrev pub number_and_name : Listed → List ℕ
number_and_name e = decimal e.0 ++ codes "-" ++ flat_map file_byte e.1.name

-- the name of a volume's file: its number and its name; or the number alone, if that would be longer than the name of a file can be
unfoldable pub file_name : Listed → List ℕ
file_name e = if nat_le (length (number_and_name e)) 255 then number_and_name e else decimal e.0

-- the path of that file in a folder
abbrev pub file_path : List ℕ → Listed → List ℕ
file_path dir e = dir ++ codes "/" ++ file_name e

-- how many bytes a volume reads, or why it can't be read
abbrev pub unpacked_amount : Result ℕ ReadError → Amount
unpacked_amount (Ok n) = amount.Bytes n
unpacked_amount (Err error.Updating) = amount.Updating
unpacked_amount (Err _) = amount.Damaged

-- the line of a volume, by how many bytes it reads
abbrev pub unpacked_line : Result ℕ ReadError → Listed → List ℕ
unpacked_line len e =
    codes "volume " ++ decimal e.0 ++ codes " " ++ amount_word (unpacked_amount len) ++ codes " name=" ++ shown e.1.name ++ codes "\n"

-- the lines of volumes
abbrev pub unpacked_lines : (ℕ → Result ℕ ReadError) → List Listed → List ℕ
unpacked_lines len es = flat_map (λ e. unpacked_line (len e.0) e) es

-- the status: success if each volume can be read
abbrev pub unpacked_status : (ℕ → Result ℕ ReadError) → List Listed → ℕ
unpacked_status len es = if list_all (λ e. is_ok (len e.0)) es then 0 else 1

-- the records of a meaning's table, in ascending order
abbrev pub listed : Meant → List Listed
listed m = entries (records_of m).of

-- bytes were written to a new file: it received them, and each other path holds what it held
abbrev pub IsNewFile : List ℕ → List ℕ → Files → Files → Type 0
IsNewFile text path old new = (received : Option (List ℕ)) × Appends (fresh old) received text × IsKept old new path received

-- a volume was unpacked: what it reads was written to a new file; if it can't be read, no file is written
abbrev pub IsUnpacked : Result (List ℕ) ReadError → List ℕ → Files → Files → Type 0
IsUnpacked (Ok text) path old new = IsNewFile text path old new
IsUnpacked (Err e) path old new = new ≡ old

-- a volume as the config in the folder describes it: with its file, if it can be read
abbrev pub described : Result ℕ ReadError → Listed → ConfigVolume
described len e = record { id = e.0; entry = e.1; image = then_some (is_ok len) (file_name e) }

-- all volumes as the config in the folder describes them
abbrev pub all_described : (ℕ → Result ℕ ReadError) → List Listed → List ConfigVolume
all_described len es = map (λ e. described (len e.0) e) es

-- the config of a meaning's volumes
abbrev pub folder_config : Meant → List ℕ
folder_config m = config_text m.sizes m.image_seq (all_described (volume_len m) (listed m))

-- the path of the config in a folder
abbrev pub config_path : List ℕ → List ℕ
config_path dir = dir ++ codes "/ubi.ini"

-- volumes were unpacked into a folder, in order
abbrev pub AreUnpacked : (ℕ → Result (List ℕ) ReadError) → List ℕ → List Listed → Files → Files → Type 0
AreUnpacked read dir [] old new = new ≡ old
AreUnpacked read dir (e ∷ es) old new =
    (between : Files) × IsUnpacked (read e.0) (file_path dir e) old between × AreUnpacked read dir es between new

-- the volumes before the one at a place were unpacked, that one can be read, and after them no file was written except its own
pub record AreUnpackedUntil (read : ℕ → Result (List ℕ) ReadError) (dir : List ℕ) (es : List Listed) (i : ℕ) (e : Listed) (old new : Files)
    : Type 0 where
  pub next : slice_get es i ≡ Some e
  pub between : Files
  pub before : AreUnpacked read dir (take i es) old between
  pub readable : (text : List ℕ) × (read e.0 ≡ Ok text)
  pub others : OthersStay between new (file_path dir e)

-- what the command answers for an image, and what becomes of the files: the lines of the volumes, which are unpacked, and
-- then their config is written; or the line of the image's refusal; or that of a folder that can't be made or isn't empty, of
-- a volume's file that can't be written, or of the config
pub data Unpacks (image : Image) (dir : List ℕ) (old new : Files) : Outcome → Type 0 where
  unpacked : {o : Outcome} (m : Meant) (between : Files) → Accepts image m → AreUnpacked (read_volume m) dir (listed m) old between
      → IsNewFile (folder_config m) (config_path dir) between new
      → Gives o (says (unpacked_lines (volume_len m) (listed m)) (unpacked_status (volume_len m) (listed m)))
      → Unpacks image dir old new o
  refused : {o : Outcome} (c : Refusal) → Refuses image c → Gives o (says (refusal_line c) 1) → AllStay old new
      → Unpacks image dir old new o
  no_folder : {o : Outcome} (m : Meant) → Accepts image m → Gives o (says (file_line (codes "cannot write ") dir) 1) → AllStay old new
      → Unpacks image dir old new o
  unwritten : {o : Outcome} (m : Meant) (i : ℕ) (e : Listed) → Accepts image m
      → AreUnpackedUntil (read_volume m) dir (listed m) i e old new
      → Gives o (says (file_line (codes "cannot write ") (file_path dir e)) 1) → Unpacks image dir old new o
  no_config : {o : Outcome} (m : Meant) (between : Files) → Accepts image m → AreUnpacked (read_volume m) dir (listed m) old between
      → OthersStay between new (config_path dir)
      → Gives o (says (file_line (codes "cannot write ") (config_path dir)) 1) → Unpacks image dir old new o

-- what it answers for any source: some lines, if its places were found; or the line of its refusal
pub data UnpacksFrom (s : Sizes) (k : Source) (agrees : Agreed) (old new : Files) : Outcome → Type 0 where
  told : {o : Outcome} (p : Placed) (text : List ℕ) (status : ℕ) → ArePlacesOf s k agrees p → Gives o (says text status)
      → UnpacksFrom s k agrees old new o
  refused_from : {o : Outcome} (c : Refusal) → ArePlacesError s k agrees (stream.Refused c) → Gives o (says (refusal_line c) 1)
      → AllStay old new → UnpacksFrom s k agrees old new o

-- what it answers for a source: the answer for the image, whatever the source may hold
abbrev pub UnpacksOf : List ℕ → Files → Files → Sizes → Source → Agreed → Outcome → Type 0
UnpacksOf dir old new s k agrees o =
    UnpacksFrom s k agrees old new o × WhereHeld agrees (λ bytes. Unpacks (image_of s bytes) dir old new o)
