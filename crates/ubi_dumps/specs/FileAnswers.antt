-- What is answered once a file is written.
use Rattle.std.specs.Prelude.{IsSome, List, codes, option_map, ℕ}
use Rattle.ubi_files.specs.Answer.{Gives, says}
use Rattle.ubi_files.specs.Disk.{Files, Receives}
use Rattle.ubi_files.specs.Lines.{file_line}
use Rattle.ubi_files.specs.declared.outcome.Outcome.{Outcome}

-- what is answered once the file of an outcome is written, if it has one: the outcome, and the file received that; or the
-- line of a file that can't be written
pub data WritesFile (path : List ℕ) (old new : Files) (outcome : Outcome) : Outcome → Type 0 where
  kept : Receives old new path (option_map (λ v. v.items) outcome.file) → WritesFile path old new outcome outcome
  lost : {o : Outcome} → IsSome outcome.file → Gives o (says (file_line (codes "cannot write ") path) 1)
      → WritesFile path old new outcome o
