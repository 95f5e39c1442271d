-- What extracting answers before it writes.
use Rattle.std.specs.Prelude.{◌≡◌, ℕ, ◌≤◌, ◌⊎◌, List, Option, Err, Ok, length, take}
use Rattle.std.specs.Io.KnownBytes.{Appends, Keeps}
use Rattle.ubi_media.specs.Geometry.{Sizes}
use Rattle.ubi_scan.specs.Image.{Image, image_of}
use Rattle.ubi_scan.specs.Source.{Agreed, Source, WhereHeld}
use Rattle.ubi_volume.specs.Accepts.{Accepts}
use Rattle.ubi_volume.specs.Meant.{Meant}
use Rattle.ubi_volume.specs.declared.errors.ReadError.{ReadError}
use Rattle.ubi_files.specs.declared.outcome.ToolError.{ToolError}
use Rattle.ubi_files.specs.declared.outcome.ToolError.TheVariants as tool
use Rattle.ubi_writing.specs.declared.volume_key.VolumeKey.{VolumeKey}
use Rattle.ubi_writing.specs.Extract.{IsExtractError, read_key, read_refusal}

-- a writer received the first of what the volume of an image's meaning reads, perhaps all
abbrev pub HasFirst : Image → VolumeKey → Option (List ℕ) → Option (List ℕ) → Type 0
HasFirst image key old new =
    (m : Meant) × Accepts image m × (text : List ℕ) × (n : ℕ) × (read_key m key ≡ Ok text) × (n ≤ length text) × Appends old new (take n text)

-- why there is no answer for a source: memory ran out, and the writer received nothing; or, whatever the source may hold,
-- a read failed, before anything was written or after the first bytes, or a write failed, as over bytes
abbrev pub IsExtractFault : Sizes → Source → Agreed → VolumeKey → Option (List ℕ) → Option (List ℕ) → ToolError → Type 0
IsExtractFault s k agrees key old new tool.Memory = Keeps old new
IsExtractFault s k agrees key old new tool.Read = Keeps old new ⊎ WhereHeld agrees (λ bytes. HasFirst (image_of s bytes) key old new)
IsExtractFault s k agrees key old new tool.Write = WhereHeld agrees (λ bytes. IsExtractError (image_of s bytes) key old new tool.Write)

-- why a refusal to read isn't printed: memory ran out, or it isn't a refusal
abbrev pub IsHidden : ReadError → ToolError → Type 0
IsHidden e tool.Memory = Unit {0}
IsHidden e fault = read_refusal e ≡ Err fault
