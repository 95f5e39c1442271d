-- What is known of a source after a command over it.
use Rattle.std.specs.Prelude.{◌≢◌, Result, Ok, Err}
use Rattle.ubi_scan.specs.Source.{Source, failed}
use Rattle.ubi_files.specs.declared.outcome.Outcome.{Outcome}
use Rattle.ubi_files.specs.declared.outcome.SidesError.{SidesError}
use Rattle.ubi_files.specs.declared.outcome.SidesError.TheVariants as side
use Rattle.ubi_files.specs.declared.outcome.ToolError.{ToolError}
use Rattle.ubi_files.specs.declared.outcome.ToolError.TheVariants as tool

-- what is known after a fault: one read failed if it is Read
abbrev pub after_fault : Source → ToolError → Source
after_fault k tool.Read = failed k
after_fault k _ = k

-- what is known after an answer: one read failed if it is Read
abbrev pub after_run : {A : Type 0} → Source → Result A ToolError → Source
after_run k (Ok _) = k
after_run k (Err e) = after_fault k e

-- the fault of a command that writes nothing: a read failed, or memory ran out
abbrev pub IsNoWrite : ToolError → Type 0
IsNoWrite tool.Write = ⊥
IsNoWrite _ = Unit {0}

-- a fact that holds if a command writes nothing: its answer isn't success, or memory ran out
abbrev pub WhereNotDone : Type 0 → Result Outcome ToolError → Type 0
WhereNotDone fact (Ok o) = o.status ≢ 0 → fact
WhereNotDone fact (Err tool.Memory) = fact
WhereNotDone fact (Err e) = Unit {0}

-- what is known of the left source after a comparison: one read failed if that side is named
abbrev pub after_left : {A : Type 0} → Source → Result A SidesError → Source
after_left k (Err side.Left) = failed k
after_left k _ = k

-- what is known of the right source after a comparison, in the same way
abbrev pub after_right : {A : Type 0} → Source → Result A SidesError → Source
after_right k (Err side.Right) = failed k
after_right k _ = k
