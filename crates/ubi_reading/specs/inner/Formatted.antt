-- What is answered in a format for work that may have failed.
use Rattle.std.specs.Prelude.{◌≡◌, Err, Ok, Result}
use Rattle.ubi_files.specs.Answer.{Gives, says}
use Rattle.ubi_files.specs.declared.image_file.Unread.{Unread}
use Rattle.ubi_files.specs.declared.image_file.Unread.TheVariants as unread
use Rattle.ubi_files.specs.declared.outcome.Outcome.{Outcome}
use Rattle.ubi_json.specs.Line.{json_line}
use Rattle.ubi_json.specs.Told.{error_data}
use Rattle.ubi_reading.specs.declared.format.Format.{Format}
use Rattle.ubi_reading.specs.declared.format.Format.TheVariants as format

-- what is answered in a format for what would be printed in plain lines
abbrev pub IsLineIn : Format → Outcome → Outcome → Type 0
IsLineIn format.Text plain o = o ≡ plain
IsLineIn format.Json plain o = Gives o (says (json_line (error_data plain.text.items)) plain.status)

-- what is answered for work: its outcome, or, in the format, what is printed for a file that can't be opened
pub data IsToldIn (format : Format) (work : Result Outcome Unread) : Outcome → Type 0 where
  its_own : {o : Outcome} → work ≡ Ok o → IsToldIn format work o
  printed : {o : Outcome} (plain : Outcome) → work ≡ Err (unread.Told plain) → IsLineIn format plain o → IsToldIn format work o
