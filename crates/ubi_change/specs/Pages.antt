-- The pages that a plan programs, apart from the lines of its steps.
use Rattle.std.specs.Prelude.{◌≡◌, ℕ, List, [], ◌∷◌, drop, map, take}
use Rattle.std.specs.List.{flat_map}
use Rattle.ubi_media.specs.Geometry.{Sizes}
use Rattle.ubi_change.specs.Fitting.{AllWithin}
use Rattle.ubi_change.specs.Steps.{blocks_after}
use Rattle.ubi_change.specs.declared.step.Step.{Step}
use Rattle.ubi_change.specs.declared.step.Step.TheVariants as step

-- the bytes that a step gives a page; an erase gives none
abbrev pub page_bytes : Step → List ℕ
page_bytes (step.Erase p) = []
page_bytes (step.Program p page bytes) = bytes

-- the pages that steps program, in order
abbrev pub programmed : List Step → List ℕ
programmed steps = flat_map page_bytes steps

-- what the line of a step says: all but the bytes
abbrev pub line_of : Step → Step
line_of (step.Erase p) = step.Erase p
line_of (step.Program p page bytes) = step.Program p page []

-- the steps that lines stand for, with pages of this size as their bytes
abbrev pub with_pages : ℕ → List Step → List ℕ → List Step
with_pages size [] pages = []
with_pages size (step.Erase p ∷ lines) pages = step.Erase p ∷ with_pages size lines pages
with_pages size (step.Program p page bytes ∷ lines) pages = step.Program p page (take size pages) ∷ with_pages size lines (drop size pages)

-- the lines of the first steps, with the pages that these program, change eraseblocks as the steps do
abbrev pub PagesCarry : Type 0
PagesCarry = (s : Sizes) (bs : List (List ℕ)) (n : ℕ) (steps : List Step) (k : ℕ) → AllWithin s n steps
    → blocks_after s bs (with_pages s.page (map line_of (take k steps)) (programmed (take k steps))) k ≡ blocks_after s bs steps k
