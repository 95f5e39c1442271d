-- Laws of the commands, as they stand on functions that do nothing.
use Rattle.std.specs.Prelude.{◌≡◌, ℕ, List, Some, Ok, option_map}
use Rattle.ubi_media.specs.Geometry.{Sizes}
use Rattle.ubi_scan.specs.Image.{image_of}
use Rattle.ubi_volume.specs.Meant.{Meant}
use Rattle.ubi_compose.specs.TextLaws.{ComesTo}
use Rattle.ubi_files.specs.Answer.{Answer, Gives, says}
use Rattle.ubi_writing.specs.Compose.{Composes}
use Rattle.ubi_reading.specs.List.{Lists, list_lines}
use Rattle.ubi_files.specs.declared.outcome.Outcome.{Outcome}
use Rattle.ubi_reading.specs.declared.format.Format.TheVariants as format

-- what composing answers is a function of the text, the number of spares and the image sequence number: each run gives
-- the same
abbrev pub OneComposed : Type 0
OneComposed = (s : Sizes) (text : List ℕ) (spares seq : ℕ) (o p : Outcome) (a : Answer)
    → Composes s text spares seq o → Composes s text spares seq p → Gives o a → Gives p a

-- `list` of a composed image shows the meaning that the text comes to
abbrev pub ListsComposed : Type 0
ListsComposed = (s : Sizes) (text bytes : List ℕ) (spares seq : ℕ) (o p : Outcome)
    → Composes s text spares seq o → option_map (λ v. v.items) o.file ≡ Some bytes → Lists format.Text (image_of s bytes) p
    → (m : Meant) × ComesTo s seq text (Ok m) × Gives p (says (list_lines m) 0)
