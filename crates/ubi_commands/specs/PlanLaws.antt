-- How the printed lines of a plan are read: with the pages that the steps program, they say the plan.
use Rattle.std.specs.Prelude.{◌≡◌, ◌==◌, ◌<◌, ◌≤◌, ◌^◌, ℕ, List, [], Option, Some, None, codes, drop, filter_map, length, option_and_then, option_map, take}
use Rattle.std.specs.Bool.{then_some}
use Rattle.std.specs.List.{after_first, before_first, slice_split, starts_with}
use Rattle.std.specs.Option.{option_or}
use Rattle.ubi_media.specs.Geometry.{IsGeometry, Sizes}
use Rattle.ubi_words.specs.Words.{decimal_value}
use Rattle.ubi_change.specs.Fitting.{AllWithin}
use Rattle.ubi_change.specs.Pages.{programmed, with_pages}
use Rattle.ubi_change.specs.declared.step.Step.{Step}
use Rattle.ubi_change.specs.declared.step.Step.TheVariants as step
use Rattle.ubi_writing.specs.Plan.{plan_lines}

-- what stands behind a beginning, if a text has it
abbrev pub behind : List ℕ → List ℕ → Option (List ℕ)
behind begin text = then_some (starts_with (λ a b. a == b) text begin) (drop (length begin) text)

-- the erase of the eraseblock with a number
abbrev pub erase_of : List ℕ → Step
erase_of number = step.Erase (decimal_value number)

-- the program of a page, without its bytes: the numbers of the eraseblock and of the page
abbrev pub program_of : List ℕ → Option Step
program_of numbers =
    option_map (λ page. step.Program (decimal_value (before_first (λ b. b == 32) numbers)) (decimal_value page) [])
    (behind (codes "page=") (after_first (λ b. b == 32) numbers))

-- the step of a line, if it is one of a step
abbrev pub step_of_line : List ℕ → Option Step
step_of_line line =
    option_or (option_map erase_of (behind (codes "erase block=") line))
    (option_and_then program_of (behind (codes "program block=") line))

-- the steps of a text, line by line
abbrev pub steps_read : List ℕ → List Step
steps_read text = filter_map step_of_line (slice_split (λ b. b == 10) text)

-- the lines of a plan for a device, with the pages that its steps program, are read as its steps
abbrev pub LinesReadBack : Type 0
LinesReadBack = (s : Sizes) (n : ℕ) (steps : List Step) → IsGeometry s → n ≤ s.pebs → AllWithin s n steps → length steps < 2 ^ 64
    → with_pages s.page (steps_read (plan_lines steps)) (programmed steps) ≡ steps
