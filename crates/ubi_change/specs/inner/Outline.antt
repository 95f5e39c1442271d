-- The steps of a plan of edits without the bytes that they program.
use Rattle.std.specs.Prelude.{ℕ, ◌+◌, ◌/◌, ◌<◌, ◌^◌, List, [], ◌∷◌, ◌++◌, if◌then◌else◌, map}
use Rattle.std.specs.List.{range_with_len}
use Rattle.ubi_media.specs.Geometry.{Sizes}
use Rattle.ubi_scan.specs.Scan.{Found}
use Rattle.ubi_change.specs.Sites.{stays_on}
use Rattle.ubi_change.specs.declared.sites.Site.{Site}
use Rattle.ubi_change.specs.declared.step.Step.{Step}
use Rattle.ubi_change.specs.declared.step.Step.TheVariants as step

-- an eraseblock is erased, and its erase-counter header is rewritten
abbrev pub renew_lines : ℕ → List Step
renew_lines p = step.Erase p ∷ step.Program p 0 [] ∷ []

-- pages of an eraseblock are programmed, as many as are counted, from one on
abbrev pub page_lines : ℕ → ℕ → ℕ → List Step
page_lines p first count = map (λ page. step.Program p page []) (range_with_len first count)

-- an eraseblock is made ready, and gets a volume-identifier header, and as many pages of contents as are counted
abbrev pub lay_lines : Sizes → Site → ℕ → List Step
lay_lines s t count =
    (if t.is_clean then [] else renew_lines t.pnum)
    ++ step.Program t.pnum (s.vid_offset / s.page) [] ∷ page_lines t.pnum (s.data_offset / s.page) count

-- an eraseblock that held a copy of the table is erased, or left if it stays
abbrev pub release_lines : Found → Site → List Step
release_lines scan old = if stays_on scan old old.ec then [] else renew_lines old.pnum

-- the numbers of these pages, and of the one behind them, have 32 bits
abbrev pub HavePageNumbers : ℕ → ℕ → Type 0
HavePageNumbers first count = first + count < 2 ^ 32
