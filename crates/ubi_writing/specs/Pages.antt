-- The steps of a plan of edits, which are made when they are needed, and the pages that a plan programs.
use Rattle.std.specs.Prelude.{◌≡◌, ℕ, ◌+◌, List, [], length, map, take}
use Rattle.std.proofs.Common.{subst}
use Rattle.ubi_media.specs.Geometry.{Sizes}
use Rattle.ubi_scan.specs.Source.{Agreed, WhereHeld}
use Rattle.ubi_change.specs.Fitting.{WorkWithin}
use Rattle.ubi_change.specs.Pages.{programmed}
use Rattle.ubi_change.specs.UpdatePlan.{FitsUpdate, in_order, plan_groups}
use Rattle.ubi_change.specs.declared.step.Step.{Step}
use Rattle.ubi_writing.specs.declared.pages.Made.{Made}
use Rattle.ubi_writing.specs.declared.pages.Made.TheVariants as made
use Rattle.ubi_writing.specs.declared.pages.MadeEdits.{MadeEdits}

-- the first steps of a plan of edits, by the bytes of the source of contents
abbrev pub first_steps : MadeEdits → List ℕ → List Step
first_steps m contents = take m.stop (in_order (plan_groups m.geometry m.plan contents))

-- the steps that are made, by these bytes
abbrev pub made_steps : Made → List ℕ → List Step
made_steps (made.Edits m) contents = first_steps m contents
made_steps _ contents = []

-- the pages that a plan programs, one after the other
abbrev pub pages_made : Made → List ℕ → List ℕ
pages_made (made.Held bytes) contents = bytes.items
pages_made m contents = programmed (made_steps m contents)

-- a plan fits a source of contents of this size, it is known how many steps each group has, whatever the source may hold, each step works
-- within an eraseblock, and there is room for one
pub record IsSoundPlan (size : ℕ) (agrees : Agreed) (held : ℕ) (m : MadeEdits) : Type 0 where
  pub fits : FitsUpdate m.geometry size m.plan
  pub counted : length m.counts.items ≡ length m.plan.layings.items + 2
  pub counts : WhereHeld agrees (λ bytes. m.counts.items ≡ map length (plan_groups m.geometry m.plan bytes))
  pub within : WhereHeld agrees (λ bytes. WorkWithin m.geometry (first_steps m bytes))
  pub room : held ≡ m.geometry.peb_size

-- so does the plan of edits by which steps are made
abbrev pub IsSoundPages : ℕ → Agreed → ℕ → Made → Type 0
IsSoundPages size agrees room (made.Edits m) = IsSoundPlan size agrees room m
IsSoundPages size agrees room _ = Unit {0}

-- steps are made for eraseblocks of a geometry
abbrev pub IsReadyFor : Sizes → ℕ → Agreed → ℕ → Made → Type 0
IsReadyFor s size agrees room (made.Edits m) = (m.geometry ≡ s) × IsSoundPlan size agrees room m
IsReadyFor s size agrees room _ = ⊥

-- each step that is made works within an eraseblock
pub made_within : (s : Sizes) (size : ℕ) (agrees : Agreed) (room : ℕ) (m : Made) → IsReadyFor s size agrees room m
    → WhereHeld agrees (λ bytes. WorkWithin s (made_steps m bytes))
made_within s size agrees room (made.Edits m) ready bytes held = subst (λ z. WorkWithin z (first_steps m bytes)) ready.0 (ready.1.within bytes held)
made_within s size agrees room made.Nothing ready bytes held = absurd ready
made_within s size agrees room (made.Held text) ready bytes held = absurd ready
