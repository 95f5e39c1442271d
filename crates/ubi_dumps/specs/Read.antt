-- What a command answers for dumps that can be read, and what is printed for those that can't.
use Rattle.std.specs.Prelude.{◌≡◌, List, ℕ}
use Rattle.ubi_media.specs.Geometry.{Sizes}
use Rattle.ubi_scan.specs.Source.{Agreed, Source}
use Rattle.ubi_files.specs.Disk.{Files}
use Rattle.ubi_files.specs.Numbers.{sizes_of}
use Rattle.ubi_files.specs.OverFile.{OfFile, WhereRead}
use Rattle.ubi_files.specs.declared.dump.Dump.{Dump}
use Rattle.ubi_files.specs.declared.outcome.Outcome.{Outcome}
use Rattle.ubi_dumps.specs.Asked.{IsDump, OfAsked, OfBoth}
use Rattle.ubi_dumps.specs.declared.asked.Asked.{Asked}

-- what a command answers for a dump that can be read
abbrev pub OfRead : Files → Dump → List ℕ → (Sizes → Source → Agreed → Outcome → Type 0) → Outcome → Type 0
OfRead d dump path answers o = WhereRead d dump path (λ k agrees. answers (sizes_of dump.numbers) k agrees o)

-- what is printed for a file if no dump is found in it, or the dump can't be opened: what a command that answers nothing for what
-- it reads can answer over it
abbrev pub IsUnreadOfAsked : Files → Files → Asked → List ℕ → Outcome → Type 0
IsUnreadOfAsked d e asked path = OfAsked d e asked path (λ _ _ _ _. ⊥)

-- what a command answers for the dump that is asked for, if that can be read
abbrev pub OfReadAsked : Files → Asked → List ℕ → (Sizes → Source → Agreed → Outcome → Type 0) → Outcome → Type 0
OfReadAsked d asked path answers o = (dump : Dump) × IsDump d path asked dump × OfRead d dump path answers o

-- what is printed for two files if no dump is found in one of them, their geometries differ, or a dump can't be opened: what a
-- command that answers nothing for what it reads can answer over them
abbrev pub IsUnreadOfBoth : Files → Asked → List ℕ → List ℕ → Outcome → Type 0
IsUnreadOfBoth d asked left right = OfBoth d asked left right (λ _ _ _ _ _ _. ⊥)

-- what a command answers for two dumps that can be read
abbrev pub OfReadDumps : Files → Dump → List ℕ → Dump → List ℕ → (Sizes → Source → Agreed → Source → Agreed → Outcome → Type 0) → Outcome
    → Type 0
OfReadDumps d here left there right answers =
    OfRead d here left (λ s k agrees. OfRead d there right (λ _ l fits. answers s k agrees l fits))

-- what a command answers for the two dumps that are asked for, if they have one geometry and can be read
abbrev pub OfReadBoth : Files → Asked → List ℕ → List ℕ → (Sizes → Source → Agreed → Source → Agreed → Outcome → Type 0) → Outcome → Type 0
OfReadBoth d asked left right answers o = (here : Dump) × (there : Dump) × IsDump d left asked here × IsDump d right asked there
    × (here.numbers ≡ there.numbers) × OfReadDumps d here left there right answers o

-- what is printed for two dumps if one can't be opened
abbrev pub IsUnseenOfDumps : Files → Dump → List ℕ → Dump → List ℕ → Outcome → Type 0
IsUnseenOfDumps d here left there right = OfFile d here left (λ _ _ _. OfFile d there right (λ _ _ _ _. ⊥))
