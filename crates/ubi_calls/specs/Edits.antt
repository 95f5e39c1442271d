-- The plans of edits, with the pages that they program, and why there are none.
use Rattle.std.specs.Prelude.{◌≡◌, ℕ, Bool, List, ◌++◌, Some, None, codes, decimal, length}
use Rattle.ubi_media.specs.Geometry.{Sizes}
use Rattle.ubi_media.specs.declared.refusal.Refusal.{Refusal}
use Rattle.ubi_scan.specs.Image.{Image, image_of}
use Rattle.ubi_scan.specs.Source.{blocks_of}
use Rattle.ubi_change.specs.Avoided.{Avoided}
use Rattle.ubi_change.specs.ErrorTexts.{rename_refusal_text}
use Rattle.ubi_change.specs.Listed.{hidden_in}
use Rattle.ubi_change.specs.Pages.{programmed}
use Rattle.ubi_change.specs.Planned.{IsChangeRefusalAvoiding, PlanFacts}
use Rattle.ubi_change.specs.RenamePlanned.{RenameFacts, IsRenameRefusalAvoiding}
use Rattle.ubi_change.specs.UpdatePlanned.{AreUpdateSteps, IsUpdateCause}
use Rattle.ubi_change.specs.declared.edit.Edit.{Edit}
use Rattle.ubi_change.specs.declared.errors.ChangeRefusal.{ChangeRefusal}
use Rattle.ubi_change.specs.declared.errors.RenameRefusal.{RenameRefusal}
use Rattle.ubi_change.specs.declared.errors.RenameRefusal.TheVariants as refusal
use Rattle.ubi_change.specs.declared.errors.UpdateRefusal.{UpdateRefusal}
use Rattle.ubi_change.specs.declared.step.Step.{Step}
use Rattle.ubi_volume.specs.Accepts.{Refuses}
use Rattle.ubi_compose.specs.Words.{shown_name}
use Rattle.ubi_files.specs.BadBlocks.{marks_by_number, masked}
use Rattle.ubi_files.specs.Lines.{refusal_line, refused_line}
use Rattle.ubi_writing.specs.Change.{cause_line}
use Rattle.ubi_writing.specs.Plan.{plan_lines}
use Rattle.ubi_writing.specs.Rename.{rename_line}
use Rattle.ubi_writing.specs.Update.{AreEditsOf, AreLinesOf, IsNoEditOf, update_line}
use Rattle.ubi_writing.specs.declared.asks.Ask.{Ask}
use Rattle.ubi_calls.specs.EditLines.{AreAsksOf, IsWrongLine, by_words}

-- what a plan for a chip that holds these bytes avoids: its bad eraseblocks, by their numbers, and Blank ones if they are kept; and what
-- headers in bad eraseblocks name
abbrev pub spared : Sizes → List ℕ → Bool → List ℕ → Avoided
spared s bad keeps_blank bytes =
    let marks = marks_by_number s.pebs bad in
    let hidden = hidden_in s (blocks_of s bytes) marks in
    record { marks = marks; blank = keeps_blank; above = hidden.above; ends = hidden.ends }

-- the image of these bytes, in which bad eraseblocks read 0xFF
abbrev pub image_without : Sizes → List ℕ → List ℕ → Image
image_without s bad bytes = image_of s (masked s.peb_size (marks_by_number s.pebs bad) bytes)

-- what is answered for a change: the lines of its plan, with the pages that it programs; or the line of the cause for which there is none
pub data PlansChange (image : Image) (av : Avoided) (id lnum : ℕ) (new pages bytes : List ℕ) (status : ℕ) : Type 0 where
  change : (steps : List Step) → PlanFacts image av id lnum new steps → bytes ≡ plan_lines steps → pages ≡ programmed steps
      → status ≡ 0 → PlansChange image av id lnum new pages bytes status
  no_change : (c : ChangeRefusal) → IsChangeRefusalAvoiding image av id lnum new c → cause_line c ≡ Some bytes → status ≡ 1
      → PlansChange image av id lnum new pages bytes status

-- what is answered for a rename: the same, if the word shows a name, and if not, that it shows none
pub data PlansRename (image : Image) (av : Avoided) (id : ℕ) (word pages bytes : List ℕ) (status : ℕ) : Type 0 where
  rename : (name : List ℕ) (steps : List Step) → shown_name word ≡ Some name → RenameFacts image av id name steps
      → bytes ≡ plan_lines steps → pages ≡ programmed steps → status ≡ 0 → PlansRename image av id word pages bytes status
  no_rename : (name : List ℕ) (c : RenameRefusal) → shown_name word ≡ Some name → IsRenameRefusalAvoiding image av id name c
      → rename_line c ≡ Some bytes → status ≡ 1 → PlansRename image av id word pages bytes status
  no_name : shown_name word ≡ None → bytes ≡ refused_line (rename_refusal_text refusal.BadName) → status ≡ 1
      → PlansRename image av id word pages bytes status

-- the line of a text whose line with this number is wrong
abbrev pub wrong_line : ℕ → List ℕ
wrong_line n = refused_line (codes "E1 BadEdit line=" ++ decimal n)

-- what is answered for edits of whole volumes that a text asks for: the lines of the volumes that are written and of the plan, with the
-- pages that it programs; or the line of a text that is wrong, of an image that is refused, of what stands for no edit, or of the cause for
-- which there is no plan
pub data PlansUpdate (image : Image) (av : Avoided) (text contents pages bytes : List ℕ) (status : ℕ) : Type 0 where
  update : (asks : List Ask) (es : List Edit) (steps : List Step) (lines : List ℕ) → AreAsksOf text (length contents) asks
      → AreEditsOf image (by_words asks) es → AreUpdateSteps image av contents es steps → AreLinesOf image av contents es lines
      → bytes ≡ lines ++ plan_lines steps → pages ≡ programmed steps → status ≡ 0 → PlansUpdate image av text contents pages bytes status
  no_text : (n : ℕ) → IsWrongLine text (length contents) n → bytes ≡ wrong_line n → status ≡ 1
      → PlansUpdate image av text contents pages bytes status
  no_image : (asks : List Ask) (c : Refusal) → AreAsksOf text (length contents) asks → Refuses image c → bytes ≡ refusal_line c → status ≡ 1
      → PlansUpdate image av text contents pages bytes status
  no_edit : (asks : List Ask) → AreAsksOf text (length contents) asks → IsNoEditOf image (by_words asks) bytes → status ≡ 1
      → PlansUpdate image av text contents pages bytes status
  no_update : (asks : List Ask) (es : List Edit) (c : UpdateRefusal) → AreAsksOf text (length contents) asks → AreEditsOf image (by_words asks) es
      → IsUpdateCause image av contents es c → update_line (by_words asks) c ≡ Some bytes → status ≡ 1
      → PlansUpdate image av text contents pages bytes status
