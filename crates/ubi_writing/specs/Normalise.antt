-- What normalising a source to a writer answers.
use Rattle.std.specs.Prelude.{ℕ, ◌/◌, List, Option, length}
use Rattle.std.specs.Io.KnownBytes.{Appends, Keeps}
use Rattle.ubi_media.specs.Geometry.{Sizes}
use Rattle.ubi_media.specs.declared.refusal.Refusal.{Refusal}
use Rattle.ubi_scan.specs.Image.{Image, IsWholeSize, image_of}
use Rattle.ubi_scan.specs.Source.{Agreed, Source, WhereHeld}
use Rattle.ubi_scan.specs.declared.errors.StreamError.TheVariants as stream
use Rattle.ubi_volume.specs.Accepts.{Accepts, Refuses}
use Rattle.ubi_volume.specs.Meant.{Meant}
use Rattle.ubi_volume.specs.Places.{ArePlacesError}
use Rattle.ubi_compose.specs.Normal.{normal_blocks, normal_bytes}
use Rattle.ubi_compose.specs.Streamed.{IsNormaliseToError, IsNormalisedTo}
use Rattle.ubi_files.specs.Answer.{Gives, says}
use Rattle.ubi_writing.specs.Lines.{blocks_line}
use Rattle.ubi_files.specs.Lines.{refusal_line}
use Rattle.ubi_files.specs.declared.outcome.Outcome.{Outcome}
use Rattle.ubi_files.specs.declared.outcome.ToolError.{ToolError}
use Rattle.ubi_files.specs.declared.outcome.ToolError.TheVariants as tool

-- what the command answers for an image: how many eraseblocks the normal image of what it means has, and the writer
-- received that; or the line of its refusal, and the writer received nothing
pub data Normalises (image : Image) (old new : Option (List ℕ)) : Outcome → Type 0 where
  accepted : {o : Outcome} (m : Meant) → Accepts image m → Gives o (says (blocks_line (length (normal_blocks m))) 0)
      → Appends old new (normal_bytes m) → Normalises image old new o
  refused : {o : Outcome} (c : Refusal) → Refuses image c → Gives o (says (refusal_line c) 1) → Keeps old new
      → Normalises image old new o

-- what it answers for any source: for one that has the size of an image, how many eraseblocks the n bytes are that the
-- writer received; or the line of a refusal, and the writer received nothing
pub data NormalisesTo (s : Sizes) (k : Source) (agrees : Agreed) (old new : Option (List ℕ)) : Outcome → Type 0 where
  wrote : {o : Outcome} (n : ℕ) → IsWholeSize s k.size → IsNormalisedTo s agrees old new n → Gives o (says (blocks_line (n / s.peb_size)) 0)
      → NormalisesTo s k agrees old new o
  wrote_nothing : {o : Outcome} (c : Refusal) → ArePlacesError s k agrees (stream.Refused c) → Gives o (says (refusal_line c) 1)
      → Keeps old new → NormalisesTo s k agrees old new o

-- why there is no answer: memory ran out, and the writer received nothing; or a read or a write failed, and it received
-- a first part
abbrev pub IsNormaliseError : Sizes → Source → Agreed → Option (List ℕ) → Option (List ℕ) → ToolError → Type 0
IsNormaliseError s k agrees old new tool.Memory = Keeps old new
IsNormaliseError s k agrees old new tool.Read = (p : ℕ) × (n : ℕ) × IsNormaliseToError s k agrees old new (stream.Read p n)
IsNormaliseError s k agrees old new tool.Write = (n : ℕ) × IsNormaliseToError s k agrees old new (stream.Write n)

-- what it answers for a source: the answer for the image, whatever the source may hold
abbrev pub NormalisesOf : Sizes → Source → Agreed → Option (List ℕ) → Option (List ℕ) → Outcome → Type 0
NormalisesOf s k agrees old new o =
    NormalisesTo s k agrees old new o × WhereHeld agrees (λ bytes. Normalises (image_of s bytes) old new o)

-- whatever a source may hold is accepted
abbrev pub HasMeaning : Sizes → Agreed → Type 0
HasMeaning s agrees = WhereHeld agrees (λ bytes. (m : Meant) × Accepts (image_of s bytes) m)
