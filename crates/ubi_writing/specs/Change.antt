-- What changing a logical eraseblock of an image answers.
use Rattle.std.specs.Prelude.{◌≡◌, ◌⊎◌, ℕ, List, Option, Some, None, take}
use Rattle.std.specs.Io.KnownBytes.{Keeps}
use Rattle.ubi_media.specs.Geometry.{Sizes}
use Rattle.ubi_change.specs.Cuts.{changed, turn}
use Rattle.ubi_change.specs.Avoided.{Avoided, nothing}
use Rattle.ubi_change.specs.ErrorTexts.{change_refusal_text}
use Rattle.ubi_change.specs.Pages.{programmed}
use Rattle.ubi_change.specs.Planned.{IsChangeError, IsChangeRefusal, PlanFacts, PlanFactsOfSource}
use Rattle.ubi_change.specs.declared.errors.PlanError.TheVariants as error
use Rattle.ubi_change.specs.declared.errors.ChangeRefusal.{ChangeRefusal}
use Rattle.ubi_change.specs.declared.errors.ChangeRefusal.TheVariants as refusal
use Rattle.ubi_change.specs.declared.step.Step.{Step}
use Rattle.ubi_scan.specs.Image.{Image, image_of}
use Rattle.ubi_scan.specs.Source.{Agreed, Source, WhereHeld}
use Rattle.ubi_volume.specs.Accepts.{Accepts}
use Rattle.ubi_volume.specs.Meant.{Meant}
use Rattle.ubi_volume.specs.Wrote.{All, Wrote}
use Rattle.ubi_files.specs.Answer.{Gives, says}
use Rattle.ubi_files.specs.Lines.{refused_line}
use Rattle.ubi_writing.specs.Plan.{CutAccepts, IsCarryFault, cut_text, not_blank_line, plan_answer, plan_lines, steps_done}
use Rattle.ubi_files.specs.declared.outcome.Outcome.{Outcome}
use Rattle.ubi_files.specs.declared.outcome.ToolError.{ToolError}
use Rattle.ubi_files.specs.declared.outcome.ToolError.TheVariants as tool

-- the line of a change that isn't planned; there is none if memory ran out
abbrev pub cause_line : ChangeRefusal → Option (List ℕ)
cause_line refusal.Memory = None
cause_line c = Some (refused_line (change_refusal_text c))

-- the image after the first k steps is accepted: before the commit point it means what it meant at first, and from it on
-- the same with the new bytes
abbrev pub CutMeans : Image → ℕ → ℕ → List ℕ → List Step → ℕ → Type 0
CutMeans image id lnum new steps k =
    (m : Meant) × Accepts image m × CutAccepts image steps (turn image.sizes steps new) m (changed m id lnum new) k

-- what the command answers for an image: the answer of the plan, and what its file means; or the line of the cause for
-- which nothing is planned
pub data Changes (image : Image) (id lnum : ℕ) (new : List ℕ) (stop : Option ℕ) : Outcome → Type 0 where
  planned : {o : Outcome} (steps : List Step) → PlanFacts image nothing id lnum new steps → Gives o (plan_answer image steps stop)
      → CutMeans image id lnum new steps (steps_done steps stop) → Changes image id lnum new stop o
  unplanned : {o : Outcome} (c : ChangeRefusal) (line : List ℕ) → IsChangeRefusal image id lnum new c → cause_line c ≡ Some line
      → Gives o (says line 1) → Changes image id lnum new stop o

module _ (av : Avoided) (id lnum : ℕ) (new : List ℕ) (stop : Option ℕ) (s : Sizes) (k : Source) (agrees : Agreed) where
  -- what it answers for a source: the lines of a plan that avoids some eraseblocks, with the pages that the steps done
  -- program; and the writer received what the file holds, whatever the source may hold. Or the line of the cause for which
  -- nothing is planned, or of a listed eraseblock that isn't blank, and the writer received nothing
  pub data ChangesFrom (pages : List ℕ) (old now : Option (List ℕ)) : Outcome → Type 0 where
    planned_from : {o : Outcome} (steps : List Step) → PlanFactsOfSource s k agrees av id lnum new steps
        → Gives o (says (plan_lines steps) 0) → pages ≡ programmed (take (steps_done steps stop) steps)
        → Wrote agrees old now (cut_text s steps (steps_done steps stop)) All 0 k.size
        → WhereHeld agrees (λ bytes. CutMeans (image_of s bytes) id lnum new steps (steps_done steps stop)) → ChangesFrom pages old now o
    unplanned_from : {o : Outcome} (c : ChangeRefusal) (line : List ℕ) → IsChangeError s k agrees av id lnum new (error.Refused c)
        → cause_line c ≡ Some line → Gives o (says line 1) → Keeps old now → ChangesFrom pages old now o
    not_blank_from : {o : Outcome} (p : ℕ) → IsChangeError s k agrees av id lnum new (error.NotBlank p)
        → Gives o (says (not_blank_line p) 1) → Keeps old now → ChangesFrom pages old now o

  -- why there is no answer: memory ran out, and the writer received nothing; or a read or a write failed, and it received
  -- the first of what the plan leaves
  abbrev pub IsChangeFault : Option (List ℕ) → Option (List ℕ) → ToolError → Type 0
  IsChangeFault old now tool.Memory = Keeps old now
  IsChangeFault old now tool.Read =
      Keeps old now
      ⊎ ((steps : List Step) × PlanFactsOfSource s k agrees av id lnum new steps × IsCarryFault s agrees steps (steps_done steps stop) old now tool.Read)
  IsChangeFault old now tool.Write =
      (steps : List Step) × PlanFactsOfSource s k agrees av id lnum new steps × IsCarryFault s agrees steps (steps_done steps stop) old now tool.Write

-- a change of a source is planned
abbrev pub HasPlan : Avoided → ℕ → ℕ → List ℕ → Sizes → Source → Agreed → Type 0
HasPlan av id lnum new s k agrees = (steps : List Step) × PlanFactsOfSource s k agrees av id lnum new steps
