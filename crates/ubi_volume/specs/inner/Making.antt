-- What is looked for while volumes are made into a meaning.
use Rattle.std.specs.Prelude.{◌≡◌, ℕ, ◌<◌, ◌==◌, ◌&&◌, Bool, nat_lt, length, List, Option, MatchOption}
use Rattle.ubi_media.specs.Geometry.{Sizes}
use Rattle.ubi_volume.specs.Made.{Items, Stands, cause_rank, item}
use Rattle.ubi_volume.specs.declared.errors.MeaningCause.{MeaningCause}

-- no cause of a rank applies whose item is below n
abbrev pub NoneBelow : Sizes → Items → ℕ → ℕ → Type 0
NoneBelow s items r n = (d : MeaningCause) → cause_rank d ≡ r → item d < n → Stands s items d → ⊥

-- the first cause of a rank, if one applies
abbrev pub IsFirstOf : Sizes → Items → ℕ → Option MeaningCause → Type 0
IsFirstOf s items r found = MatchOption found
    ((d : MeaningCause) → cause_rank d ≡ r → Stands s items d → ⊥)
    (λ c. (cause_rank c ≡ r) × Stands s items c × NoneBelow s items r (item c))

-- whether a LEB has a number below `reserved`, and `size` bytes
abbrev pub leb_fits : ℕ → ℕ → ℕ × List ℕ → Bool
leb_fits reserved size e = nat_lt e.0 reserved && (length e.1 == size)
