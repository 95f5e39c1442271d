-- What a plan may not touch or give out, and what attaching shows of an image to a plan that avoids it.
use Rattle.std.specs.Prelude.{◌≡◌, ℕ, ◌<◌, ◌&&◌, ◌||◌, Bool, true, false, not, if◌then◌else◌, List, [], count_by, length, map, max, Some, slice_get, refl}
use Rattle.std.specs.Coded.{Coded, code_by, coded×, coded_bool, coded_list, coded_ℕ}
use Rattle.std.specs.List.{enumerate_from}
use Rattle.ubi_media.specs.Geometry.{Sizes}
use Rattle.ubi_media.specs.declared.ec.EcRead.TheVariants as ec_read
use Rattle.ubi_scan.specs.Image.{block, ec}
use Rattle.ubi_scan.specs.Marks.{is_listed}
use Rattle.ubi_scan.specs.Scan.{Found}
use Rattle.ubi_volume.specs.Attached.{AttachValue}
use Rattle.ubi_volume.specs.declared.attached.BlockState.{BlockState}
use Rattle.ubi_volume.specs.declared.attached.BlockState.TheVariants as state
use Rattle.ubi_change.specs.Steps.{target}
use Rattle.ubi_change.specs.declared.step.Step.{Step}

-- what a plan keeps off: the eraseblocks that it may not touch, whether each one is listed, and whether no Blank one may be touched; the
-- sequence numbers up to one that it may not give out; and the LEBs of each volume below an end, which it may not bring to life
pub record Avoided : Type 0 where
  pub marks : List Bool
  pub blank : Bool
  pub above : ℕ
  pub ends : List ℕ

-- what is avoided, as nested pairs
abbrev pub avoided_code : Coded Avoided
avoided_code =
    code_by (List Bool × (Bool × (ℕ × List ℕ))) (coded× (coded_list coded_bool) (coded× coded_bool (coded× coded_ℕ (coded_list coded_ℕ))))
    (λ e. (e.marks, (e.blank, (e.above, e.ends)))) (λ p. record { marks = p.0; blank = p.1.0; above = p.1.1.0; ends = p.1.1.1 }) (λ _. refl)

-- nothing is avoided
abbrev pub nothing : Avoided
nothing = record { marks = []; blank = false; above = 0; ends = [] }

-- what a scan found, as a plan sees it that may not give out the sequence numbers up to n: it counts on from there
abbrev pub raised : ℕ → Found → Found
raised n scan = record scan { top_sqnum = max scan.top_sqnum n }

-- whether an eraseblock in this state is Blank
abbrev pub is_blank_one : BlockState → Bool
is_blank_one state.Blank = true
is_blank_one _ = false

module _ (av : Avoided) where
  -- whether p, which is in this state, is avoided
  abbrev pub is_avoided : ℕ → BlockState → Bool
  is_avoided p st = is_listed av.marks p || (av.blank && is_blank_one st)

  -- the state of p as the plan sees it: what is avoided counts as used
  abbrev pub state_avoiding : ℕ → BlockState → BlockState
  state_avoiding p st = if is_avoided p st then state.Used else st

  -- the states of all eraseblocks as the plan sees them
  abbrev pub states_avoiding : List BlockState → List BlockState
  states_avoiding states = map (λ e. state_avoiding e.0 e.1) (enumerate_from 0 states)

  -- what attaching shows, as the plan sees it
  abbrev pub avoiding : AttachValue → AttachValue
  avoiding a = record a { scan = raised av.above a.scan; states = states_avoiding a.states }

  -- how many of the eraseblocks, which are in these states, may be touched
  abbrev pub touchable : List BlockState → ℕ
  touchable states = count_by (λ e. not (is_avoided e.0 e.1)) (enumerate_from 0 states)

-- no step works on a listed eraseblock
abbrev pub AllBeside : List Bool → List Step → Type 0
AllBeside marks steps = (k : ℕ) (next : Step) → slice_get steps k ≡ Some next → is_listed marks (target next) ≡ false

module _ (s : Sizes) (bs : List (List ℕ)) (av : Avoided) where
  -- p isn't listed, and isn't Blank if no Blank one may be touched
  abbrev pub MayTouch : ℕ → Type 0
  MayTouch p = (is_listed av.marks p ≡ false) × (av.blank ≡ true → ec s (block bs p) ≡ ec_read.Blank → ⊥)

  -- no step erases or programs what is avoided
  abbrev pub Avoids : List Step → Type 0
  Avoids steps = (k : ℕ) (next : Step) → slice_get steps k ≡ Some next → MayTouch (target next)

  -- the listed eraseblocks below n are Blank
  abbrev pub BlankBelow : ℕ → Type 0
  BlankBelow n = (p : ℕ) → p < n → is_listed av.marks p ≡ true → ec s (block bs p) ≡ ec_read.Blank

  -- all listed eraseblocks that exist are Blank: none of them holds anything
  abbrev pub ReadBlank : Type 0
  ReadBlank = BlankBelow (length bs)

  -- p is the lowest listed eraseblock that exists and isn't Blank
  abbrev pub IsNotBlank : ℕ → Type 0
  IsNotBlank p = (is_listed av.marks p ≡ true) × (p < length bs) × (ec s (block bs p) ≡ ec_read.Blank → ⊥) × BlankBelow p
