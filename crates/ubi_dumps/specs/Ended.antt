-- What a command answers once its work is over, and which of its faults are printed.
use Rattle.std.specs.Prelude.{◌≡◌, ℕ, Bool, true, false, List, Result, Ok, Err, codes}
use Rattle.ubi_scan.specs.Source.{Source, failed}
use Rattle.ubi_files.specs.Answer.{Gives, says}
use Rattle.ubi_files.specs.Lines.{file_line}
use Rattle.ubi_files.specs.declared.outcome.Outcome.{Outcome}
use Rattle.ubi_files.specs.declared.outcome.SidesError.{SidesError}
use Rattle.ubi_files.specs.declared.outcome.SidesError.TheVariants as side
use Rattle.ubi_files.specs.declared.outcome.ToolError.{ToolError}
use Rattle.ubi_files.specs.declared.outcome.ToolError.TheVariants as tool

-- what is answered for a source: the answer of the work, after which no more reads have failed; or the line of the
-- source, if one more read failed
pub data Works (k after : Source) (path : List ℕ) (answers : Outcome → Type 0) : Outcome → Type 0 where
  answered : {o : Outcome} → after ≡ k → answers o → Works k after path answers o
  no_source : {o : Outcome} → after ≡ failed k → Gives o (says (file_line (codes "cannot read ") path) 1)
      → Works k after path answers o

-- what is answered once the work is over: its outcome, and if all is done the file is open; or the line of a file that
-- can't be read or written, if a read or a write failed, or if all is done and the file can't be opened
pub data IsEnded (answer : Result Outcome ToolError) (there : Bool) (unread unwritten : Outcome) : Outcome
    → Type 0 where
  done : {o : Outcome} → answer ≡ Ok o → (o.status ≡ 0 → there ≡ true) → IsEnded answer there unread unwritten o
  unopened : (o : Outcome) → answer ≡ Ok o → o.status ≡ 0 → there ≡ false
      → IsEnded answer there unread unwritten unwritten
  no_read : answer ≡ Err tool.Read → IsEnded answer there unread unwritten unread
  no_write : answer ≡ Err tool.Write → IsEnded answer there unread unwritten unwritten

-- what is answered for work over a file: its outcome, or the line of the file, if a read of it failed
pub data IsTold (work : Result Outcome ToolError) (path : List ℕ) : Outcome → Type 0 where
  outcome : {o : Outcome} → work ≡ Ok o → IsTold work path o
  read_failed : {o : Outcome} → work ≡ Err tool.Read → Gives o (says (file_line (codes "cannot read ") path) 1)
      → IsTold work path o

-- what is answered for work over two files, if a read of one failed: the line of that file
pub data IsUnreadSide (work : Result Outcome SidesError) (left right : List ℕ) : Outcome → Type 0 where
  left_failed : {o : Outcome} → work ≡ Err side.Left → Gives o (says (file_line (codes "cannot read ") left) 1)
      → IsUnreadSide work left right o
  right_failed : {o : Outcome} → work ≡ Err side.Right → Gives o (says (file_line (codes "cannot read ") right) 1)
      → IsUnreadSide work left right o
