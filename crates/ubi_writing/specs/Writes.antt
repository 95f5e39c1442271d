-- What the commands that read one image, and write a file, answer.
use Rattle.std.specs.Prelude.{ℕ, Bool, List, Option, false, true}
use Rattle.ubi_media.specs.Geometry.{Sizes}
use Rattle.ubi_scan.specs.Source.{Agreed, Source, WhereHeld}
use Rattle.ubi_writing.specs.Asks.{asked_edits}
use Rattle.ubi_writing.specs.Change.{ChangesFrom, HasPlan}
use Rattle.ubi_writing.specs.Extract.{ExtractsOf, HasTextIn}
use Rattle.ubi_writing.specs.Normalise.{HasMeaning, NormalisesOf}
use Rattle.ubi_writing.specs.Pages.{pages_made}
use Rattle.ubi_writing.specs.Rename.{HasRename, RenamesFrom}
use Rattle.ubi_writing.specs.Update.{HasUpdate, UpdatesFrom}
use Rattle.ubi_files.specs.declared.outcome.Outcome.{Outcome}
use Rattle.ubi_writing.specs.declared.pages.Made.{Made}
use Rattle.ubi_writing.specs.declared.writers.Writing.{Writing}
use Rattle.ubi_writing.specs.declared.writers.Writing.TheVariants as writing

-- what a command answers for a source, by the bytes of the source of contents, which pages it gives, and what the file receives meanwhile
abbrev pub writes_of : Writing → List ℕ → Sizes → Source → Agreed → List ℕ → Option (List ℕ) → Option (List ℕ) → Outcome → Type 0
writes_of writing.Normalise contents s k agrees pages = NormalisesOf s k agrees
writes_of (writing.Extract key) contents s k agrees pages = ExtractsOf key s k agrees
writes_of (writing.Change new kept stop) contents s k agrees pages =
    ChangesFrom kept.now new.id new.lnum new.bytes.now stop s k agrees pages
writes_of (writing.Rename id word kept stop) contents s k agrees pages = RenamesFrom kept.now id word.now stop s k agrees pages
writes_of (writing.Update asked kept stop) contents s k agrees pages =
    UpdatesFrom kept.now (asked_edits asked.now) contents stop s k agrees pages

-- the same for whatever the source of contents may hold
abbrev pub writes : Writing → Agreed → Made → Sizes → Source → Agreed → Option (List ℕ) → Option (List ℕ) → Outcome → Type 0
writes w agreed made s k agrees old now o = WhereHeld agreed (λ bytes. writes_of w bytes s k agrees (pages_made made bytes) old now o)

-- whether a command may give its image other bytes: it has a use for that
abbrev pub may_replace : Writing → Bool
may_replace (writing.Extract key) = false
may_replace _ = true

-- there is something to write, by the bytes of the source of contents
abbrev pub HasWorkOf : Writing → List ℕ → Sizes → Source → Agreed → Type 0
HasWorkOf writing.Normalise contents s k agrees = HasMeaning s agrees
HasWorkOf (writing.Extract key) contents s k agrees = HasTextIn key s agrees
HasWorkOf (writing.Change new kept stop) contents s k agrees = HasPlan kept.now new.id new.lnum new.bytes.now s k agrees
HasWorkOf (writing.Rename id word kept stop) contents s k agrees = HasRename kept.now id word.now s k agrees
HasWorkOf (writing.Update asked kept stop) contents s k agrees = HasUpdate kept.now (asked_edits asked.now) contents s k agrees

-- the same for whatever the source of contents may hold
abbrev pub HasWork : Writing → Agreed → Sizes → Source → Agreed → Type 0
HasWork w agreed s k agrees = WhereHeld agreed (λ bytes. HasWorkOf w bytes s k agrees)
