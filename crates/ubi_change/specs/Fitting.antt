-- When steps fit an image.
use Rattle.std.specs.Prelude.{◌≡◌, ℕ, ◌+◌, ◌*◌, ◌/◌, ◌<◌, ◌==◌, ◌&&◌, Bool, true, nat_lt, bit_and, List, length, Some, slice_get, slice_range}
use Rattle.std.specs.Cmp.Lexicographic.{pointwise}
use Rattle.ubi_media.specs.Geometry.{Sizes}
use Rattle.ubi_scan.specs.Image.{block}
use Rattle.ubi_change.specs.Steps.{blocks_after, target}
use Rattle.ubi_change.specs.declared.step.Step.{Step}
use Rattle.ubi_change.specs.declared.step.Step.TheVariants as step

-- each bit of the new bytes is kept or cleared: none is set that isn't set in the old bytes, which are as many
abbrev pub only_clears : List ℕ → List ℕ → Bool
only_clears old new = pointwise (λ o n. bit_and o n == n) old new

-- the bytes of a page
abbrev pub page_of : Sizes → List ℕ → ℕ → List ℕ
page_of s b page = slice_range b (page * s.page) (page * s.page + s.page)

-- whether a step fits the eraseblocks
abbrev pub fits : Sizes → List (List ℕ) → Step → Bool
fits s bs (step.Erase p) = nat_lt p (length bs)
fits s bs (step.Program p page bytes) =
    nat_lt p (length bs) && nat_lt page (s.peb_size / s.page) && (length bytes == s.page)
    && only_clears (page_of s (block bs p) page) bytes

-- each step fits what those before it leave
abbrev pub AllFit : Sizes → List (List ℕ) → List Step → Type 0
AllFit s bs steps = (k : ℕ) (next : Step) → slice_get steps k ≡ Some next → fits s (blocks_after s bs steps k) next ≡ true

-- the page of a program lies in its eraseblock, and its bytes are one page
abbrev pub FitsBlock : Sizes → Step → Type 0
FitsBlock s (step.Erase p) = Unit {0}
FitsBlock s (step.Program p page bytes) = (page < s.peb_size / s.page) × (length bytes ≡ s.page)

-- each step works within one of n eraseblocks
abbrev pub AllWithin : Sizes → ℕ → List Step → Type 0
AllWithin s n steps = (k : ℕ) (next : Step) → slice_get steps k ≡ Some next → (target next < n) × FitsBlock s next

-- each step works within an eraseblock, of which there may be any number
abbrev pub WorkWithin : Sizes → List Step → Type 0
WorkWithin s steps = (n : ℕ) × AllWithin s n steps
