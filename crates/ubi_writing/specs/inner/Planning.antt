-- What a plan that is cut leaves, and a file that is written with it.
use Rattle.std.specs.Borrow.{Bor}
use Rattle.std.specs.Prelude.{◌≡◌, ◌≢◌, ℕ, All, List, Some, length}
use Rattle.ubi_media.specs.Geometry.{Sizes}
use Rattle.ubi_change.specs.Steps.{blocks_after}
use Rattle.ubi_change.specs.declared.step.Step.{Step}
use Rattle.ubi_scan.specs.Image.{Image, eraseblocks, image_of, of_blocks}
use Rattle.ubi_scan.specs.Source.{Agreed, Source, WhereHeld}
use Rattle.ubi_files.specs.Answer.{Gives}
use Rattle.ubi_files.specs.Disk.{Files, Stays}
use Rattle.ubi_files.specs.declared.dump.Dump.{Dump}
use Rattle.ubi_files.specs.declared.outcome.Outcome.{Outcome}
use Rattle.ubi_writing.specs.Outputs.{OnGrid, WithList, WritesPlan}
use Rattle.ubi_writing.specs.Plan.{cut_bytes}
use Rattle.ubi_writing.specs.Writes.{HasWorkOf, writes_of}
use Rattle.ubi_writing.specs.declared.orders.Plan.{Plan}
use Rattle.ubi_writing.specs.declared.writers.Writing.{Writing}

-- an outcome, with these bytes as its file if the work was done
pub data HasFile (work : Outcome) (bytes : List ℕ) (o : Outcome) : Type 0 where
  done : work.status ≡ 0 → Gives o (record { text = work.text.items; status = 0; file = Some bytes }) → HasFile work bytes o
  refused_file : work.status ≢ 0 → o ≡ work → HasFile work bytes o

-- the bytes after the first k steps are as many as before, and cut into the eraseblocks that these steps leave
pub record IsCutAfter (image : Image) (steps : List Step) (k : ℕ) : Type 0 where
  pub same : length (cut_bytes image steps k) ≡ length image.bytes
  pub done : eraseblocks (record image { bytes = cut_bytes image steps k }) ≡ of_blocks blocks_after image steps k

-- so are the bytes after the first k steps, whatever a source may hold
abbrev pub AreCut : Sizes → Agreed → List Step → ℕ → Type 0
AreCut s agrees steps k = WhereHeld agrees (λ bytes. IsCutAfter (image_of s bytes) steps k)

-- what is answered if no plan can name the eraseblocks of a dump, whatever is asked, and no file is changed
abbrev pub NamesNoBlocks : Files → Dump → List ℕ → Outcome → Type 0
NamesNoBlocks d dump path = WithList d d dump.bad path (OnGrid d d dump path (λ o. ⊥))

-- the files at these paths hold what they held
abbrev pub TheseStay : Files → Files → List (Bor (List ℕ)) → Type 0
TheseStay d e paths = All (λ path. Stays d e path.now) paths

-- what a command that plans can answer for a source, whatever the source of contents may hold: what it answers, with what its files
-- received
abbrev pub Plans : Plan → Files → Files → Writing → Agreed → Sizes → Source → Agreed → Outcome → Type 0
Plans plan d e w agreed s k agrees o =
    WhereHeld agreed (λ bytes. WritesPlan plan.paths.out.now plan.pages d e (writes_of w bytes s k agrees) (HasWorkOf w bytes s k agrees) o)
