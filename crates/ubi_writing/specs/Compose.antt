-- What composing an image from a text answers.
use Rattle.std.specs.Prelude.{◌≡◌, ℕ, ◌+◌, ◌<◌, List, Some, Ok, Err, codes, length, option_map}
use Rattle.ubi_media.specs.Geometry.{Sizes}
use Rattle.ubi_scan.specs.Image.{image_of}
use Rattle.ubi_volume.specs.Accepts.{Accepts}
use Rattle.ubi_volume.specs.ErrorTexts.{meaning_cause_text}
use Rattle.ubi_volume.specs.Meant.{Meant}
use Rattle.ubi_volume.specs.declared.errors.MeaningCause.{MeaningCause}
use Rattle.ubi_compose.specs.Composed.{HasRoom, composed}
use Rattle.ubi_compose.specs.ErrorTexts.{compose_error_text, spec_error_text}
use Rattle.ubi_compose.specs.Normal.{normal_blocks}
use Rattle.ubi_compose.specs.TextLaws.{ComesTo}
use Rattle.ubi_compose.specs.Spec.{first_cause}
use Rattle.ubi_compose.specs.declared.errors.ComposeError.TheVariants as error
use Rattle.ubi_compose.specs.declared.errors.SpecCause.{SpecCause}
use Rattle.ubi_compose.specs.declared.errors.SpecError.TheVariants as spec
use Rattle.ubi_files.specs.Answer.{Answer, Gives, says}
use Rattle.ubi_files.specs.Disk.{Files, Receives}
use Rattle.ubi_writing.specs.Lines.{blocks_line}
use Rattle.ubi_files.specs.Lines.{file_line, refused_line}
use Rattle.ubi_files.specs.declared.outcome.Outcome.{Outcome}

-- the printed line for a line of a text that has a fault
abbrev pub spec_line : ℕ → SpecCause → List ℕ
spec_line n cause = refused_line (spec_error_text (spec.Refused n cause))

-- the line of volumes that have no meaning together
abbrev pub meaning_line : MeaningCause → List ℕ
meaning_line cause = refused_line (meaning_cause_text cause)

-- the line of an image that the device has no room for
abbrev pub room_line : List ℕ
room_line = refused_line (compose_error_text error.TooMany)

-- the number of eraseblocks of a composed image, and its bytes
abbrev pub composed_answer : Meant → ℕ → Answer
composed_answer m spares = record {
  text = blocks_line (length (normal_blocks m) + spares);
  status = 0;
  file = Some (composed m spares);
}

-- what is answered for a meaning: its image, which is accepted with it, or the line of a device without room for it
pub data ComposesOf (m : Meant) (spares : ℕ) : Outcome → Type 0 where
  fits : {o : Outcome} → HasRoom m spares → Accepts (image_of m.sizes (composed m spares)) m → Gives o (composed_answer m spares)
      → ComposesOf m spares o
  crowded : {o : Outcome} → m.sizes.pebs < length (normal_blocks m) + spares → Gives o (says room_line 1) → ComposesOf m spares o

-- what the command answers for a text: the answer for the meaning that it comes to; or the line of the first of its
-- lines that has a fault, or of volumes that have no meaning together
pub data Composes (s : Sizes) (text : List ℕ) (spares seq : ℕ) : Outcome → Type 0 where
  described : {o : Outcome} (m : Meant) → ComesTo s seq text (Ok m) → ComposesOf m spares o → Composes s text spares seq o
  unread : {o : Outcome} (line : ℕ) (cause : SpecCause) → first_cause s text ≡ Some (line, cause)
      → Gives o (says (spec_line line cause) 1) → Composes s text spares seq o
  unmade : {o : Outcome} (cause : MeaningCause) → ComesTo s seq text (Err cause) → Gives o (says (meaning_line cause) 1) → Composes s text spares seq o

-- what it answers over files: the same, and the file at a path received the image, if there is one; or the line of an output
-- that can't be written
pub data ComposesInto (out : List ℕ) (old new : Files) (s : Sizes) (text : List ℕ) (spares seq : ℕ) : Outcome → Type 0 where
  written : {o : Outcome} → Composes s text spares seq o → Receives old new out (option_map (λ v. v.items) o.file)
      → ComposesInto out old new s text spares seq o
  unwritten : {o : Outcome} (m : Meant) → ComesTo s seq text (Ok m) → HasRoom m spares
      → Gives o (says (file_line (codes "cannot write ") out) 1) → ComposesInto out old new s text spares seq o
