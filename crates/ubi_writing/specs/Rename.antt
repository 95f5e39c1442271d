-- What renaming a volume of an image answers.
use Rattle.std.specs.Prelude.{◌≡◌, ◌⊎◌, ℕ, List, Option, Some, None, take}
use Rattle.std.specs.Io.KnownBytes.{Keeps}
use Rattle.ubi_media.specs.Geometry.{Sizes}
use Rattle.ubi_change.specs.Cuts.{turn}
use Rattle.ubi_change.specs.Avoided.{Avoided, nothing}
use Rattle.ubi_change.specs.Pages.{programmed}
use Rattle.ubi_change.specs.ErrorTexts.{rename_refusal_text}
use Rattle.ubi_change.specs.RenamePlan.{renamed_pages}
use Rattle.ubi_change.specs.RenamePlanned.{IsPlannedRename, IsRenameError, RenameFacts, IsRenameRefusal}
use Rattle.ubi_change.specs.Renamed.{renamed}
use Rattle.ubi_change.specs.declared.errors.PlanError.TheVariants as error
use Rattle.ubi_change.specs.declared.errors.RenameRefusal.{RenameRefusal}
use Rattle.ubi_change.specs.declared.errors.RenameRefusal.TheVariants as refusal
use Rattle.ubi_change.specs.declared.step.Step.{Step}
use Rattle.ubi_compose.specs.Words.{shown_name}
use Rattle.ubi_scan.specs.Image.{Image, image_of}
use Rattle.ubi_scan.specs.Source.{Agreed, Source, WhereHeld}
use Rattle.ubi_volume.specs.Accepts.{Accepts}
use Rattle.ubi_volume.specs.Meant.{Meant}
use Rattle.ubi_volume.specs.Wrote.{All, Wrote}
use Rattle.ubi_files.specs.Answer.{Gives, says}
use Rattle.ubi_files.specs.Lines.{refused_line}
use Rattle.ubi_writing.specs.Plan.{CutAccepts, IsCarryFault, cut_text, not_blank_line, plan_answer, plan_lines, steps_done}
use Rattle.ubi_files.specs.declared.outcome.Outcome.{Outcome}
use Rattle.ubi_files.specs.declared.outcome.ToolError.{ToolError}
use Rattle.ubi_files.specs.declared.outcome.ToolError.TheVariants as tool

-- the line of a rename that isn't planned; there is none if memory ran out
abbrev pub rename_line : RenameRefusal → Option (List ℕ)
rename_line refusal.Memory = None
rename_line c = Some (refused_line (rename_refusal_text c))

-- the image after the first k steps is accepted: before the commit point it means what it meant at first, and from it on
-- the same with the new name
abbrev pub CutIsNamed : Image → ℕ → List ℕ → List Step → ℕ → Type 0
CutIsNamed image id name steps k =
    (m : Meant) × Accepts image m
    × CutAccepts image steps (turn image.sizes steps (renamed_pages image.sizes m id name)) m (renamed m id name) k

-- what the command answers for an image and a word: if the word shows a name, the answer of the plan, and what its file
-- means, or the line of the cause for which nothing is planned; or that the word shows no name
pub data Renames (image : Image) (id : ℕ) (word : List ℕ) (stop : Option ℕ) : Outcome → Type 0 where
  planned : {o : Outcome} (name : List ℕ) (steps : List Step) → shown_name word ≡ Some name
      → RenameFacts image nothing id name steps → Gives o (plan_answer image steps stop)
      → CutIsNamed image id name steps (steps_done steps stop) → Renames image id word stop o
  nameless : {o : Outcome} → shown_name word ≡ None → Gives o (says (refused_line (rename_refusal_text refusal.BadName)) 1)
      → Renames image id word stop o
  unplanned : {o : Outcome} (name : List ℕ) (c : RenameRefusal) (line : List ℕ) → shown_name word ≡ Some name
      → IsRenameRefusal image id name c → rename_line c ≡ Some line → Gives o (says line 1)
      → Renames image id word stop o

module _ (av : Avoided) (id : ℕ) (word : List ℕ) (stop : Option ℕ) (s : Sizes) (k : Source) (agrees : Agreed) where
  -- what it answers for a source: if the word shows a name, the lines of a plan that avoids some eraseblocks, with the pages
  -- that the steps done program; and the writer received what the file holds, whatever the source may hold. Or the line of the
  -- cause for which nothing is planned, of a listed eraseblock that isn't blank, or that the word shows no name, and the
  -- writer received nothing
  pub data RenamesFrom (pages : List ℕ) (old now : Option (List ℕ)) : Outcome → Type 0 where
    planned_from : {o : Outcome} (name : List ℕ) (steps : List Step) → shown_name word ≡ Some name
        → IsPlannedRename s k agrees av id name steps → Gives o (says (plan_lines steps) 0)
        → pages ≡ programmed (take (steps_done steps stop) steps)
        → Wrote agrees old now (cut_text s steps (steps_done steps stop)) All 0 k.size
        → WhereHeld agrees (λ bytes. CutIsNamed (image_of s bytes) id name steps (steps_done steps stop)) → RenamesFrom pages old now o
    nameless_from : {o : Outcome} → shown_name word ≡ None → Gives o (says (refused_line (rename_refusal_text refusal.BadName)) 1) → Keeps old now
        → RenamesFrom pages old now o
    unplanned_from : {o : Outcome} (name : List ℕ) (c : RenameRefusal) (line : List ℕ) → shown_name word ≡ Some name
        → IsRenameError s k agrees av id name (error.Refused c) → rename_line c ≡ Some line → Gives o (says line 1) → Keeps old now
        → RenamesFrom pages old now o
    not_blank_from : {o : Outcome} (name : List ℕ) (p : ℕ) → shown_name word ≡ Some name
        → IsRenameError s k agrees av id name (error.NotBlank p) → Gives o (says (not_blank_line p) 1) → Keeps old now
        → RenamesFrom pages old now o

  -- why there is no answer: memory ran out, and the writer received nothing; or a read or a write failed, and it received
  -- the first of what the plan leaves
  abbrev pub IsRenameFault : Option (List ℕ) → Option (List ℕ) → ToolError → Type 0
  IsRenameFault old now tool.Memory = Keeps old now
  IsRenameFault old now tool.Read =
      Keeps old now
      ⊎ ((name : List ℕ) × (steps : List Step) × (shown_name word ≡ Some name) × IsPlannedRename s k agrees av id name steps
      × IsCarryFault s agrees steps (steps_done steps stop) old now tool.Read)
  IsRenameFault old now tool.Write =
      (name : List ℕ) × (steps : List Step) × (shown_name word ≡ Some name) × IsPlannedRename s k agrees av id name steps
      × IsCarryFault s agrees steps (steps_done steps stop) old now tool.Write

-- a rename of a source to the name that a word shows is planned
abbrev pub HasRename : Avoided → ℕ → List ℕ → Sizes → Source → Agreed → Type 0
HasRename av id word s k agrees =
    (name : List ℕ) × (steps : List Step) × (shown_name word ≡ Some name) × IsPlannedRename s k agrees av id name steps
