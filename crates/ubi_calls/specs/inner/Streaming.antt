-- What is written of the bytes that are asked for.
use Rattle.std.specs.Prelude.{◌≡◌, ◌<◌, ℕ, List, Option, length, take}
use Rattle.std.specs.Io.KnownBytes.{Appends, Keeps}
use Rattle.ubi_scan.specs.Image.{Image}
use Rattle.ubi_files.specs.declared.outcome.Outcome.{Outcome}
use Rattle.ubi_files.specs.declared.outcome.ToolError.{ToolError}
use Rattle.ubi_files.specs.declared.outcome.ToolError.TheVariants as tool
use Rattle.ubi_calls.specs.Calls.{MayTell}
use Rattle.ubi_calls.specs.Contents.{Normal, ReadsContents}
use Rattle.ubi_calls.specs.declared.streams.Content.{Content}
use Rattle.ubi_calls.specs.declared.streams.Content.TheVariants as content

-- what is answered for the bytes that are asked for
abbrev pub wanted : Content → Image → MayTell
wanted (content.Volume id) image = ReadsContents image id
wanted content.Normal image = Normal image

-- all was written, or nothing, and the outcome has the line that is answered
pub data Writes (told : MayTell) (old new : Option (List ℕ)) (o : Outcome) : Type 0 where
  wrote : (bytes : List ℕ) → told bytes 0 → o.status ≡ 0 → Appends old new bytes → Writes told old new o
  said : told o.text.items 1 → o.status ≡ 1 → Keeps old new → Writes told old new o

-- why neither is so: memory ran out, and nothing was written; or a write failed, and only the first bytes were
abbrev pub IsUnwritten : MayTell → Option (List ℕ) → Option (List ℕ) → ToolError → Type 0
IsUnwritten told old new tool.Memory = Keeps old new
IsUnwritten told old new tool.Read = ⊥
IsUnwritten told old new tool.Write = (bytes : List ℕ) × (n : ℕ) × told bytes 0 × (n < length bytes) × Appends old new (take n bytes)
