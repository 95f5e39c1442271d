-- What is extracted from an image: what one of its volumes reads.
use Rattle.std.specs.Prelude.{◌≡◌, ℕ, ◌<◌, List, Option, Result, Ok, Err, length, take}
use Rattle.std.specs.Option.{option_map_or}
use Rattle.std.specs.Io.KnownBytes.{Appends, Keeps}
use Rattle.ubi_media.specs.Geometry.{Sizes}
use Rattle.ubi_media.specs.declared.refusal.Refusal.{Refusal}
use Rattle.ubi_scan.specs.Image.{Image, IsWholeSize, image_of}
use Rattle.ubi_scan.specs.Source.{Agreed, Source, WhereHeld}
use Rattle.ubi_scan.specs.declared.errors.StreamError.TheVariants as stream
use Rattle.ubi_volume.specs.Accepts.{Accepts, Refuses}
use Rattle.ubi_volume.specs.ErrorTexts.{read_error_text}
use Rattle.ubi_volume.specs.Meant.{Meant, records_of}
use Rattle.ubi_volume.specs.Places.{ArePlacesError}
use Rattle.ubi_volume.specs.Reading.{read_volume}
use Rattle.ubi_volume.specs.declared.errors.ReadError.{ReadError}
use Rattle.ubi_volume.specs.declared.errors.ReadError.TheVariants as error
use Rattle.ubi_compose.specs.Streamed.{HasGot}
use Rattle.ubi_files.specs.Answer.{Gives, says}
use Rattle.ubi_writing.specs.Key.{number_in}
use Rattle.ubi_writing.specs.Lines.{bytes_line}
use Rattle.ubi_files.specs.Lines.{refusal_line, refused_line}
use Rattle.ubi_files.specs.declared.outcome.Outcome.{Outcome}
use Rattle.ubi_files.specs.declared.outcome.ToolError.{ToolError}
use Rattle.ubi_files.specs.declared.outcome.ToolError.TheVariants as tool
use Rattle.ubi_writing.specs.declared.volume_key.VolumeKey.{VolumeKey}

-- the text of a refusal to read; a fault of the machine has none
abbrev pub read_refusal : ReadError → Result (List ℕ) ToolError
read_refusal (error.Write _) = Err tool.Write
read_refusal error.Memory = Err tool.Memory
read_refusal e = Ok (read_error_text e)

-- what the volume of a key reads
abbrev pub read_key : Meant → VolumeKey → Result (List ℕ) ReadError
read_key m key = option_map_or (read_volume m) (number_in (records_of m) key) (Err error.NoVolume)

-- the line of a refusal to read
abbrev pub RefusesToRead : ReadError → Outcome → Type 0
RefusesToRead e o = (text : List ℕ) × (read_refusal e ≡ Ok text) × Gives o (says (refused_line text) 1)

-- what is answered for a volume of a meaning: the line of the refusal to read it, and the writer received nothing; or
-- how many bytes it reads, and the writer received them
pub data ReadsVolume (m : Meant) (key : VolumeKey) (old new : Option (List ℕ)) : Outcome → Type 0 where
  unread : {o : Outcome} (e : ReadError) → read_key m key ≡ Err e → RefusesToRead e o → Keeps old new → ReadsVolume m key old new o
  read : {o : Outcome} (text : List ℕ) → read_key m key ≡ Ok text → Gives o (says (bytes_line (length text)) 0)
      → Appends old new text → ReadsVolume m key old new o

-- why there is no answer for it: memory ran out, and the writer received nothing; or a write failed, and it received the
-- first n bytes and not all
abbrev pub IsVolumeError : Meant → VolumeKey → Option (List ℕ) → Option (List ℕ) → ToolError → Type 0
IsVolumeError m key old new tool.Memory = Keeps old new
IsVolumeError m key old new tool.Write =
    (text : List ℕ) × (n : ℕ) × (read_key m key ≡ Ok text) × (n < length text) × Appends old new (take n text)
IsVolumeError m key old new tool.Read = ⊥

-- what the command answers for an image: the answer for the volume of its meaning, or the line of its refusal, and the
-- writer received nothing
pub data Extracts (image : Image) (key : VolumeKey) (old new : Option (List ℕ)) : Outcome → Type 0 where
  accepted : {o : Outcome} (m : Meant) → Accepts image m → ReadsVolume m key old new o → Extracts image key old new o
  refused : {o : Outcome} (c : Refusal) → Refuses image c → Gives o (says (refusal_line c) 1) → Keeps old new
      → Extracts image key old new o

-- why there is no answer for an image
abbrev pub IsExtractError : Image → VolumeKey → Option (List ℕ) → Option (List ℕ) → ToolError → Type 0
IsExtractError image key old new tool.Memory = Keeps old new
IsExtractError image key old new e = (m : Meant) × Accepts image m × IsVolumeError m key old new e

-- what it answers for any source: for one that has the size of an image, how many bytes the writer received, or the line
-- of a refusal to read the volume; or the line of a refusal of the image. After a refusal the writer received nothing
pub data ExtractsFrom (s : Sizes) (k : Source) (agrees : Agreed) (old new : Option (List ℕ)) : Outcome → Type 0 where
  wrote : {o : Outcome} (n : ℕ) → IsWholeSize s k.size → HasGot old new n → Gives o (says (bytes_line n) 0)
      → ExtractsFrom s k agrees old new o
  unread_from : {o : Outcome} (e : ReadError) → IsWholeSize s k.size → RefusesToRead e o → Keeps old new
      → ExtractsFrom s k agrees old new o
  refused_from : {o : Outcome} (c : Refusal) → ArePlacesError s k agrees (stream.Refused c) → Gives o (says (refusal_line c) 1) → Keeps old new
      → ExtractsFrom s k agrees old new o

-- what it answers for a source: the answer for the image, whatever the source may hold
abbrev pub ExtractsOf : VolumeKey → Sizes → Source → Agreed → Option (List ℕ) → Option (List ℕ) → Outcome → Type 0
ExtractsOf key s k agrees old new o =
    ExtractsFrom s k agrees old new o × WhereHeld agrees (λ bytes. Extracts (image_of s bytes) key old new o)

-- what a volume of the image's meaning reads
abbrev pub HasVolumeText : Image → VolumeKey → Type 0
HasVolumeText image key = (m : Meant) × (text : List ℕ) × Accepts image m × (read_key m key ≡ Ok text)

-- whatever a source may hold, the volume can be read
abbrev pub HasTextIn : VolumeKey → Sizes → Agreed → Type 0
HasTextIn key s agrees = WhereHeld agrees (λ bytes. HasVolumeText (image_of s bytes) key)
