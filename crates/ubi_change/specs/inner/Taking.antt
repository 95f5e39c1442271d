-- The eraseblocks that a plan takes, read one by one.
use Rattle.std.specs.Prelude.{◌≡◌, ◌<◌, ℕ, Bool, true, false, if◌then◌else◌, List, [], ◌∷◌, ◌++◌, find, length, map, nat_lt, take, Option, Some, None, IfSome, option_map, slice_get}
use Rattle.std.specs.List.{AllByRecursion}
use Rattle.ubi_media.specs.Geometry.{Sizes}
use Rattle.ubi_scan.specs.Source.{Agreed, Source, WhereHeld, blocks_in, blocks_of}
use Rattle.ubi_volume.specs.Survey.{IsSurveyOf}
use Rattle.ubi_volume.specs.declared.attached.BlockState.{BlockState}
use Rattle.ubi_change.specs.Avoided.{AllBeside, Avoided, is_blank_one, states_avoiding}
use Rattle.ubi_scan.specs.Marks.{is_listed}
use Rattle.ubi_change.specs.Takeable.{is_takeable, takeable}
use Rattle.ubi_change.specs.Sites.{FitsIn}
use Rattle.ubi_change.specs.inner.Sites.{site_at}
use Rattle.ubi_change.specs.declared.ground.Ground.{Ground}
use Rattle.ubi_change.specs.Steps.{target}
use Rattle.ubi_change.specs.declared.step.Step.{Step}
use Rattle.ubi_change.specs.declared.sites.Site.{Site}

-- some eraseblocks with one more after them, if they are fewer than a number
abbrev pub with_next : ℕ → List Site → Site → List Site
with_next most ts t = if nat_lt (length ts) most then ts ++ t ∷ [] else ts

-- p, if it may be taken
abbrev pub TakeableIs : Sizes → List (List ℕ) → List BlockState → ℕ → Option Site → Type 0
TakeableIs s bs states p t = t ≡ (if is_takeable s bs states p then Some (site_at s bs states p) else None)

-- the first of those that are taken, as many as a number
abbrev pub first_taken : Sizes → List (List ℕ) → List BlockState → ℕ → List Site
first_taken s bs states most = take most (map (site_at s bs states) (takeable s bs states))

-- they lie in the source, and are the first that are taken, whatever it may hold
pub record AreTaken (s : Sizes) (k : Source) (agrees : Agreed) (states : List BlockState) (most : ℕ) (ts : List Site) : Type 0 where
  pub fit : AllByRecursion (FitsIn (blocks_in s k)) ts
  pub held : WhereHeld agrees (λ bytes. ts ≡ first_taken s (blocks_of s bytes) states most)

-- a source that is surveyed, with the first of the eraseblocks that may be taken when something is avoided
pub record IsGroundOf (s : Sizes) (k : Source) (agrees : Agreed) (av : Avoided) (most : ℕ) (ground : Ground) : Type 0 where
  pub survey : IsSurveyOf s k agrees ground.surveyed
  pub taken : AreTaken s k agrees (states_avoiding av ground.surveyed.states) most ground.taken.items

-- the listed eraseblocks below n are Blank, by the states
abbrev pub SayBlank : List Bool → List BlockState → ℕ → Type 0
SayBlank marks states n = (p : ℕ) → p < n → is_listed marks p ≡ true → IfSome (slice_get states p) (λ st. is_blank_one st ≡ true)

-- the lowest listed eraseblock that exists and isn't Blank, if there is one
abbrev pub NotBlankIs : List Bool → List BlockState → Option ℕ → Type 0
NotBlankIs marks states None = SayBlank marks states (length states)
NotBlankIs marks states (Some p) =
    (is_listed marks p ≡ true) × ((st : BlockState) × (slice_get states p ≡ Some st) × (is_blank_one st ≡ false)) × SayBlank marks states p

-- the number of the first of some eraseblocks that is listed, if one is
abbrev pub listed_site : List Bool → List Site → Option ℕ
listed_site marks ts = option_map (λ t. t.pnum) (find (λ t. is_listed marks t.pnum) ts)

-- the eraseblock of a step that works on a listed one, if there is one
abbrev pub ListedIs : List Bool → List Step → Option ℕ → Type 0
ListedIs marks steps None = AllBeside marks steps
ListedIs marks steps (Some p) = (k : ℕ) × (next : Step) × (slice_get steps k ≡ Some next) × (target next ≡ p) × (is_listed marks p ≡ true)
