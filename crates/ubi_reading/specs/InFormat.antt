-- What a command can answer over one file or two, in a format.
use Rattle.std.specs.Prelude.{List, ℕ}
use Rattle.ubi_media.specs.Geometry.{Sizes}
use Rattle.ubi_scan.specs.Source.{Agreed, Source}
use Rattle.ubi_files.specs.Answer.{Gives, says}
use Rattle.ubi_files.specs.Disk.{Files}
use Rattle.ubi_files.specs.OverFile.{IsUnseen, OfFile}
use Rattle.ubi_files.specs.declared.dump.Dump.{Dump}
use Rattle.ubi_files.specs.declared.outcome.Outcome.{Outcome}
use Rattle.ubi_json.specs.Line.{json_line}
use Rattle.ubi_json.specs.Told.{error_data}
use Rattle.ubi_dumps.specs.Asked.{OfAsked, OfBoth}
use Rattle.ubi_dumps.specs.Read.{IsUnreadOfAsked, IsUnreadOfBoth, OfRead, OfReadAsked, OfReadBoth}
use Rattle.ubi_dumps.specs.declared.asked.Asked.{Asked}
use Rattle.ubi_reading.specs.declared.format.Format.{Format}
use Rattle.ubi_reading.specs.declared.format.Format.TheVariants as format

-- what is answered as JSON: for a file that can't be opened, the object of the line that is printed for it, with its status; or
-- what a command answers for what it reads
pub data InJson (fails answers : Outcome → Type 0) : Outcome → Type 0 where
  failed : {o : Outcome} (plain : Outcome) → fails plain → Gives o (says (json_line (error_data plain.text.items)) plain.status)
      → InJson fails answers o
  answered : {o : Outcome} → answers o → InJson fails answers o

-- what it can answer over a dump whose geometry is known
abbrev pub OfFileIn : Format → Files → Dump → List ℕ → (Sizes → Source → Agreed → Outcome → Type 0) → Outcome → Type 0
OfFileIn format.Text d dump path answers = OfFile d dump path answers
OfFileIn format.Json d dump path answers = InJson (IsUnseen d dump path) (OfRead d dump path answers)

-- what it can answer over one file
abbrev pub OfAskedIn : Format → Files → Files → Asked → List ℕ → (Sizes → Source → Agreed → Outcome → Type 0) → Outcome → Type 0
OfAskedIn format.Text d e asked path answers = OfAsked d e asked path answers
OfAskedIn format.Json d e asked path answers = InJson (IsUnreadOfAsked d e asked path) (OfReadAsked d asked path answers)

-- what it can answer over two files
abbrev pub OfBothIn : Format → Files → Asked → List ℕ → List ℕ → (Sizes → Source → Agreed → Source → Agreed → Outcome → Type 0) → Outcome
    → Type 0
OfBothIn format.Text d asked left right answers = OfBoth d asked left right answers
OfBothIn format.Json d asked left right answers = InJson (IsUnreadOfBoth d asked left right) (OfReadBoth d asked left right answers)
