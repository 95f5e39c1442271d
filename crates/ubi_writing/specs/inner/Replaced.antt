-- What is answered once a file was given its bytes all at once.
use Rattle.std.specs.Borrow.{Bor}
use Rattle.std.specs.Option.{ForSome}
use Rattle.std.specs.Prelude.{◌≡◌, ◌≢◌, ℕ, List, Some, codes}
use Rattle.ubi_files.specs.Answer.{Gives, says}
use Rattle.ubi_files.specs.Disk.{Files, Holds, Receives, Stays, full_of}
use Rattle.ubi_files.specs.Lines.{file_line}
use Rattle.ubi_writing.specs.declared.orders.Plan.{Plan}
use Rattle.ubi_files.specs.declared.outcome.Outcome.{Outcome}

-- what is answered for work that came to an outcome, for whose output these bytes are kept: the outcome, and the file holds them if all is
-- done, and what it held if not; or the line of a file that can't be written, and it holds what it held
pub data Replaces (out : List ℕ) (old new : Files) (bytes : List ℕ) (outcome lost : Outcome) : Outcome → Type 0 where
  undone : outcome.status ≢ 0 → new ≡ old → Replaces out old new bytes outcome lost outcome
  replaced : outcome.status ≡ 0 → Holds new out (full_of old bytes) → Replaces out old new bytes outcome lost outcome
  not_replaced : outcome.status ≡ 0 → new ≡ old → Replaces out old new bytes outcome lost lost

-- what is answered for a plan that is done, once its pages were written, if there is a path for them, and then its output, for which these
-- bytes are kept: the outcome, and both are written; or the line of the first that can't be written
pub data FinishesAtOnce (old new : Files) (plan : Plan) (pages bytes : List ℕ) (outcome : Outcome) : Outcome → Type 0 where
  both_written : ForSome plan.pages (λ path. Receives old new path.now (Some pages)) → Holds new plan.paths.out.now (full_of old bytes)
      → FinishesAtOnce old new plan pages bytes outcome outcome
  pages_unwritten : {o : Outcome} (path : Bor (List ℕ)) → plan.pages ≡ Some path → Stays old new plan.paths.out.now
      → Gives o (says (file_line (codes "cannot write ") path.now) 1) → FinishesAtOnce old new plan pages bytes outcome o
  output_unwritten : {o : Outcome} → ForSome plan.pages (λ path. Receives old new path.now (Some pages)) → Stays old new plan.paths.out.now
      → Gives o (says (file_line (codes "cannot write ") plan.paths.out.now) 1) → FinishesAtOnce old new plan pages bytes outcome o
