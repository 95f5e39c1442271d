-- How an update comes to its edits and its plan.
use Rattle.std.specs.Prelude.{◌≡◌, ◌⊎◌, ◌++◌, List, ℕ, Option, Result, Err, length, map}
use Rattle.ubi_media.specs.Geometry.{Sizes}
use Rattle.ubi_media.specs.declared.refusal.Refusal.{Refusal}
use Rattle.ubi_change.specs.declared.errors.UpdateError.{UpdateError}
use Rattle.ubi_change.specs.declared.errors.UpdateError.TheVariants as error
use Rattle.ubi_change.specs.UpdatePlan.{in_order, plan_groups}
use Rattle.ubi_change.specs.declared.step.Step.{Step}
use Rattle.ubi_change.specs.declared.update.UpdatePlan.{UpdatePlan}
use Rattle.ubi_scan.specs.Image.{image_of}
use Rattle.ubi_scan.specs.Source.{Agreed, Source, WhereHeld, failed}
use Rattle.ubi_scan.specs.declared.errors.StreamError.{StreamError}
use Rattle.ubi_scan.specs.declared.errors.StreamError.TheVariants as stream
use Rattle.ubi_volume.specs.Places.{ArePlacesError}
use Rattle.ubi_files.specs.Answer.{Gives, says}
use Rattle.ubi_files.specs.Lines.{refusal_line}
use Rattle.ubi_files.specs.declared.outcome.Outcome.{Outcome}
use Rattle.ubi_files.specs.declared.outcome.ToolError.{ToolError}
use Rattle.ubi_files.specs.declared.outcome.ToolError.TheVariants as tool
use Rattle.ubi_writing.specs.Update.{IsNoEditOf, error_line}
use Rattle.ubi_writing.specs.Plan.{plan_lines, steps_done}
use Rattle.ubi_writing.specs.Asks.{AskedEdits}
use Rattle.ubi_writing.specs.declared.pages.Made.{Made}
use Rattle.ubi_writing.specs.declared.pages.Made.TheVariants as made
use Rattle.ubi_writing.specs.declared.pages.MadeEdits.{MadeEdits}
use Rattle.ubi_writing.specs.declared.update.Counted.{Counted}
use Rattle.ubi_writing.specs.declared.update.NoEdits.{NoEdits}
use Rattle.ubi_writing.specs.declared.update.NoEdits.TheVariants as no_edits
use Rattle.std.specs.Prelude.{Some}

-- an error of a call that writes nothing
abbrev pub WritesNothing : StreamError → Type 0
WritesNothing (stream.Write n) = ⊥
WritesNothing _ = Unit {0}

-- why there are no edits, by why the image can't be read
abbrev pub IsUnreadImage : StreamError → NoEdits → Type 0
IsUnreadImage (stream.Refused c) (no_edits.Told text) = text.items ≡ refusal_line c
IsUnreadImage (stream.Refused c) (no_edits.Fault e) = e ≡ tool.Memory
IsUnreadImage (stream.Read p n) e = e ≡ no_edits.Fault tool.Read
IsUnreadImage _ e = e ≡ no_edits.Fault tool.Memory

-- what is known of a source after edits of its image were asked for: one read failed if the answer is Read
abbrev pub after_edits : {A : Type 0} → Source → Result A NoEdits → Source
after_edits k (Err (no_edits.Fault tool.Read)) = failed k
after_edits k _ = k

-- why there are none: the image is refused, or what is asked stands for no edit, with the line that says so; or a read failed, or memory
-- ran out
abbrev pub AreNoEdits : Sizes → Source → Agreed → AskedEdits → NoEdits → Type 0
AreNoEdits s k agrees w (no_edits.Told text) =
    ((c : Refusal) × ArePlacesError s k agrees (stream.Refused c) × (text.items ≡ refusal_line c))
    ⊎ WhereHeld agrees (λ bytes. IsNoEditOf (image_of s bytes) w text.items)
AreNoEdits s k agrees w (no_edits.Fault tool.Write) = ⊥
AreNoEdits s k agrees w (no_edits.Fault _) = Unit {0}

-- the answer is the line of edits that aren't planned
abbrev pub IsToldOf : AskedEdits → UpdateError → Outcome → Type 0
IsToldOf w e o = (line : List ℕ) × (error_line w e ≡ Some line) × Gives o (says line 1)

-- a read failed, or memory ran out
abbrev pub IsFaultOf : UpdateError → ToolError → Type 0
IsFaultOf (error.Read p) e = e ≡ tool.Read
IsFaultOf _ e = e ≡ tool.Memory

-- the steps of groups, one after the other, were counted: how many there are in each group, and in all
pub record AreStepCounts (groups : List (List Step)) (c : Counted) : Type 0 where
  pub counts : c.counts.items ≡ map length groups
  pub total : c.total ≡ length (in_order groups)

-- the first steps of a plan are made when they are needed, and the lines of the plan follow other lines
pub record IsHeldPlan (s : Sizes) (p : UpdatePlan) (stop : Option ℕ) (agrees : Agreed) (lines : List ℕ) (m : Made) (text : List ℕ) : Type 0 where
  pub edits : MadeEdits
  pub is : m ≡ made.Edits edits
  pub sizes : edits.geometry ≡ s
  pub plan : edits.plan ≡ p
  pub done : WhereHeld agrees (λ bytes. edits.stop ≡ steps_done (in_order (plan_groups s p bytes)) stop)
  pub said : WhereHeld agrees (λ bytes. text ≡ lines ++ plan_lines (in_order (plan_groups s p bytes)))
