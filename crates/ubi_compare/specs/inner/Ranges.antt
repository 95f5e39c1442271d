-- The ranges of LEBs that are found in order.
use Rattle.std.specs.Prelude.{◌≡◌, ◌≢◌, ◌↔◌, ℕ, Bool, true, false, List, [], ◌∷◌, ◌++◌, None, map}
use Rattle.ubi_media.specs.Geometry.{Sizes}
use Rattle.ubi_volume.specs.declared.content.Volume.{Volume}
use Rattle.ubi_compare.specs.Differences.{lebs_apart, ranges_after}
use Rattle.ubi_compare.specs.declared.difference.Difference.{Difference}
use Rattle.ubi_compare.specs.declared.difference.Difference.TheVariants as difference
use Rattle.ubi_compare.specs.declared.ranges.Ranges.{Ranges}

-- ranges as differences
abbrev pub ranges_told : ℕ → List (ℕ × ℕ) → List Difference
ranges_told id = map (λ (e : ℕ × ℕ). difference.Lebs id e.0 e.1)

-- the differences once more LEBs were found
abbrev pub told_with : Ranges → List ℕ → List Difference
told_with r rest = r.told.items ++ ranges_told r.id (ranges_after r.begun rest)

-- these of the first n LEBs were found
abbrev pub HaveFound : Sizes → ℕ → Volume → Volume → Ranges → ℕ → Type 0
HaveFound s id v w ranges n =
    (rest : List ℕ) → ranges_told id (ranges_after None (lebs_apart s v w n ++ rest)) ≡ told_with ranges rest

-- these of the first n LEBs were found; in brief only whether there is one
abbrev pub HaveTold : Bool → Sizes → ℕ → Volume → Volume → Ranges → ℕ → Type 0
HaveTold false s id v w ranges n = HaveFound s id v w ranges n
HaveTold true s id v w ranges n = (told_with ranges [] ≡ []) ↔ (lebs_apart s v w n ≡ [])

-- a LEB was added; in brief there is one
abbrev pub AddsLeb : Bool → ℕ → Ranges → Ranges → Type 0
AddsLeb false lnum old new = (rest : List ℕ) → told_with old (lnum ∷ rest) ≡ told_with new rest
AddsLeb true lnum old new = told_with new [] ≢ []
