-- What a plan of steps prints, and the image after the first of them.
use Rattle.std.specs.Prelude.{◌≡◌, ℕ, List, ◌++◌, Option, Some, None, codes, decimal, if◌then◌else◌, length, min, nat_lt}
use Rattle.std.specs.Io.KnownBytes.{Keeps}
use Rattle.std.specs.List.{concat, flat_map}
use Rattle.ubi_media.specs.Geometry.{Sizes}
use Rattle.ubi_change.specs.Steps.{blocks_after}
use Rattle.ubi_change.specs.declared.step.Step.{Step}
use Rattle.ubi_change.specs.declared.step.Step.TheVariants as step
use Rattle.ubi_scan.specs.Image.{Image, image_of, of_blocks}
use Rattle.ubi_scan.specs.Source.{Agreed}
use Rattle.ubi_volume.specs.Accepts.{Accepts}
use Rattle.ubi_volume.specs.Meant.{Meant}
use Rattle.ubi_volume.specs.Wrote.{First, NotAll, Wanted, Wrote}
use Rattle.ubi_files.specs.Answer.{Answer}
use Rattle.ubi_files.specs.Lines.{refused_line}
use Rattle.ubi_files.specs.declared.outcome.ToolError.{ToolError}
use Rattle.ubi_files.specs.declared.outcome.ToolError.TheVariants as tool

-- what a step does, and to which eraseblock and page
abbrev pub step_words : Step → List ℕ
step_words (step.Erase p) = codes "erase block=" ++ decimal p
step_words (step.Program p page bytes) = codes "program block=" ++ decimal p ++ codes " page=" ++ decimal page

-- the line of a step
abbrev pub step_line : Step → List ℕ
step_line next = step_words next ++ codes "\n"

-- the lines of a plan: how many steps it has, and each of them
abbrev pub plan_lines : List Step → List ℕ
plan_lines steps = codes "steps " ++ decimal (length steps) ++ codes "\n" ++ flat_map step_line steps

-- the line of a listed eraseblock that isn't blank, for which nothing is planned
abbrev pub not_blank_line : ℕ → List ℕ
not_blank_line p = refused_line (codes "K10 NotBlank block=" ++ decimal p)

-- how many steps are done: as many as are asked for, or all if there are no more, or if no number is given
abbrev pub steps_done : List Step → Option ℕ → ℕ
steps_done steps (Some stop) = min (length steps) stop
steps_done steps None = length steps

-- the bytes of an image after the first k steps
abbrev pub cut_bytes : Image → List Step → ℕ → List ℕ
cut_bytes image steps k = concat (of_blocks blocks_after image steps k)

-- the lines of the whole plan, and the image after those of its steps that are done
abbrev pub plan_answer : Image → List Step → Option ℕ → Answer
plan_answer image steps stop = record {
  text = plan_lines steps;
  status = 0;
  file = Some (cut_bytes image steps (steps_done steps stop));
}

-- the bytes of an image after the first k steps
abbrev pub cut_text : Sizes → List Step → ℕ → List ℕ → List ℕ → Type 0
cut_text s steps k image text = text ≡ cut_bytes (image_of s image) steps k

-- why some bytes weren't written: memory ran out, and the writer received nothing; or a read or a write failed, and it received
-- the first of them
abbrev pub IsWriteFault : Agreed → Wanted → Option (List ℕ) → Option (List ℕ) → ToolError → Type 0
IsWriteFault agrees wanted old new tool.Memory = Keeps old new
IsWriteFault agrees wanted old new tool.Read = (n : ℕ) × Wrote agrees old new wanted First 0 n
IsWriteFault agrees wanted old new tool.Write = (n : ℕ) × Wrote agrees old new wanted NotAll 0 n

-- why that image wasn't written
abbrev pub IsCarryFault : Sizes → Agreed → List Step → ℕ → Option (List ℕ) → Option (List ℕ) → ToolError → Type 0
IsCarryFault s agrees steps k = IsWriteFault agrees (cut_text s steps k)

-- the image after the first k steps is accepted: before the commit point with the old meaning, and from it on with the new one
abbrev pub CutAccepts : Image → List Step → ℕ → Meant → Meant → ℕ → Type 0
CutAccepts image steps turn old new k =
    Accepts (record image { bytes = cut_bytes image steps k }) (if nat_lt k turn then old else new)
