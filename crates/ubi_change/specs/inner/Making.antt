-- What private functions find on the way to the plan of a change.
use Rattle.std.specs.Prelude.{◌≡◌, ℕ, ◌+◌, ◌<◌, ◌≤◌, ◌⊎◌, not, List, [], ◌∷◌, ◌++◌, length, nat_lt, Option, Some, None, IfSome, option_map, slice_get}
use Rattle.std.specs.List.{AllByRecursion}
use Rattle.std.specs.Bool.{then_some}
use Rattle.std.specs.FinMap.{empty, get}
use Rattle.ubi_media.specs.Geometry.{Sizes}
use Rattle.ubi_media.specs.Kind.{is_static}
use Rattle.ubi_media.specs.Record.{data_pad, rec_fault, usable}
use Rattle.ubi_media.specs.Vid.{plain}
use Rattle.ubi_media.specs.declared.record.VolumeRecord.{VolumeRecord}
use Rattle.ubi_media.specs.declared.vid.VidHeader.{VidHeader}
use Rattle.ubi_media.specs.declared.vid.VolKind.TheVariants as kind
use Rattle.ubi_scan.specs.Members.{layout}
use Rattle.ubi_scan.specs.Scan.{Found}
use Rattle.ubi_scan.specs.Source.{Agreed, Source}
use Rattle.ubi_scan.specs.declared.errors.StreamError.{StreamError}
use Rattle.ubi_scan.specs.declared.errors.StreamError.TheVariants as stream
use Rattle.ubi_table.specs.Records.{Records}
use Rattle.ubi_volume.specs.Attached.{AttachValue}
use Rattle.ubi_volume.specs.Survey.{Seen}
use Rattle.ubi_change.specs.Plan.{blank_header, copy_header, needs}
use Rattle.ubi_change.specs.Refused.{first_of, is_bad_length}
use Rattle.ubi_change.specs.Avoided.{Avoided, raised, states_avoiding}
use Rattle.ubi_change.specs.Takeable.{takeable}
use Rattle.ubi_change.specs.Weak.{weak_pages}
use Rattle.ubi_change.specs.Sites.{FitsIn, HasCounter, copy_on, mount_on}
use Rattle.ubi_change.specs.inner.Sites.{IsSiteAt, ready_on}
use Rattle.ubi_change.specs.inner.Taking.{IsGroundOf}
use Rattle.ubi_change.specs.declared.errors.PlanError.{PlanError}
use Rattle.ubi_change.specs.declared.errors.PlanError.TheVariants as plan
use Rattle.ubi_change.specs.declared.change.Prepared.{Prepared}
use Rattle.ubi_change.specs.declared.sites.Site.{Site}
use Rattle.ubi_change.specs.declared.sites.Sites.{Sites as OnSites}
use Rattle.ubi_change.specs.declared.sites.Sites.TheVariants as on
use Rattle.ubi_change.specs.declared.plan_steps.Target.{Target}
use Rattle.ubi_change.specs.declared.errors.ChangeRefusal.{ChangeRefusal}
use Rattle.ubi_change.specs.declared.errors.ChangeRefusal.TheVariants as refusal
use Rattle.ubi_change.specs.declared.step.Step.{Step}

-- what attaching shows of an image that is surveyed, except the volumes that it means: the steps don't depend on them
abbrev pub shown : Seen → AttachValue
shown v = record { meaning = record { sizes = v.records.sizes; image_seq = v.scan.image_seq; volumes = empty }; scan = v.scan; states = v.states }

-- the causes that don't depend on the image, each if it applies
abbrev pub own_causes : Sizes → VolumeRecord → ℕ → List ℕ → List (Option ChangeRefusal)
own_causes s r lnum new =
    then_some (is_static r.kind) refusal.StaticVolume
    ∷ then_some r.marker refusal.Updating
    ∷ then_some (not (nat_lt lnum r.reserved)) refusal.OutOfRange
    ∷ then_some (is_bad_length s (usable s r) (length new)) refusal.BadLength
    ∷ option_map refusal.WeakCheck (weak_pages s new)
    ∷ []

-- the causes that depend on which eraseblocks can be taken
abbrev pub image_causes : Sizes → List (List ℕ) → AttachValue → ℕ → ℕ → List (Option ChangeRefusal)
image_causes s bs a id lnum =
    then_some (nat_lt 0xFFFFFFFFFFFFFFFF (a.scan.top_sqnum + needs s bs a id lnum)) refusal.Exhausted
    ∷ then_some (nat_lt (length (takeable s bs a.states)) (needs s bs a id lnum)) refusal.NoFree
    ∷ []

-- what was read for a change: the ground, and the winner of the LEB
pub record IsPrepared (s : Sizes) (k : Source) (agrees : Agreed) (av : Avoided) (id lnum : ℕ) (p : Prepared) : Type 0 where
  pub ground : IsGroundOf s k agrees av 2 p.ground
  pub winner : IsSiteAt s k agrees (states_avoiding av p.ground.surveyed.states) (get p.ground.surveyed.scan.winners (id, lnum)) p.winner

-- what holds for what was read, whatever the source holds
pub record FitsPrepared (s : Sizes) (p : Prepared) : Type 0 where
  pub sizes : p.ground.surveyed.records.sizes ≡ s
  pub mean : p.ground.surveyed.scan.mean_ec ≤ 0x7FFFFFFF
  pub winner : IfSome p.winner (FitsIn (length p.ground.surveyed.states))
  pub taken : AllByRecursion (FitsIn (length p.ground.surveyed.states)) p.ground.taken.items

-- the LEB that is to be changed: its volume has a record, and no cause applies that doesn't depend on the image
pub record IsTarget (s : Sizes) (t : Records) (id lnum : ℕ) (new : List ℕ) (target : Target) : Type 0 where
  pub entry : VolumeRecord
  pub there : get t.of id ≡ Some entry
  pub sound : rec_fault s entry ≡ None
  pub free : first_of (own_causes s entry lnum new) ≡ None
  pub is : target ≡ record { id = id; lnum = lnum; compat = 0; data_pad = data_pad s entry }

-- why there is no such LEB: its volume has no record, or the first of these causes that applies
abbrev pub IsTargetRefusal : Sizes → Records → ℕ → ℕ → List ℕ → ChangeRefusal → Type 0
IsTargetRefusal s t id lnum new c =
    ((get t.of id ≡ None) × (c ≡ refusal.NoVolume))
    ⊎ ((r : VolumeRecord) × (get t.of id ≡ Some r) × (first_of (own_causes s r lnum new) ≡ Some c))

-- how many eraseblocks and sequence numbers a change needs
abbrev pub change_needs : Option Site → ℕ
change_needs (Some old) = 1
change_needs None = 2

-- the eraseblocks that a plan works on: the winner, if the LEB has one, and those that are taken
abbrev pub AreSites : Found → Option Site → List Site → OnSites → Type 0
AreSites scan winner taken (on.Mapped copy old) =
    (winner ≡ Some old) × (slice_get taken 0 ≡ Some copy) × (scan.top_sqnum + 1 ≤ 0xFFFFFFFFFFFFFFFF)
AreSites scan winner taken (on.Unmapped first copy) =
    (winner ≡ None) × (slice_get taken 0 ≡ Some first) × (slice_get taken 1 ≡ Some copy) × (scan.top_sqnum + 2 ≤ 0xFFFFFFFFFFFFFFFF)

-- too few eraseblocks can be taken
abbrev pub IsTooFew : Option Site → List Site → Type 0
IsTooFew winner taken = length taken < change_needs winner

-- why there are no such eraseblocks
abbrev pub IsSitesRefusal : Found → Option Site → List Site → ChangeRefusal → Type 0
IsSitesRefusal scan winner taken refusal.Exhausted = 0xFFFFFFFFFFFFFFFF < scan.top_sqnum + change_needs winner
IsSitesRefusal scan winner taken refusal.NoFree =
    (scan.top_sqnum + change_needs winner ≤ 0xFFFFFFFFFFFFFFFF) × IsTooFew winner taken
IsSitesRefusal scan winner taken _ = ⊥

-- what is needed to write the steps: erase counters of 31 bits, and sequence numbers of 64
abbrev pub HasRoom : Found → OnSites → Type 0
HasRoom scan (on.Mapped copy old) = HasCounter copy × HasCounter old × (scan.top_sqnum + 1 ≤ 0xFFFFFFFFFFFFFFFF)
HasRoom scan (on.Unmapped first copy) = HasCounter first × HasCounter copy × (scan.top_sqnum + 2 ≤ 0xFFFFFFFFFFFFFFFF)

-- the LEB that holds a copy of the volume table
abbrev pub table_target : ℕ → Target
table_target c = record { id = layout; lnum = c; compat = 5; data_pad = 0 }

-- the header of a LEB that is to hold something, as long as it names no data
abbrev pub target_header : Target → VidHeader
target_header t = plain kind.Dynamic t.compat t.data_pad t.id t.lnum

module _ (s : Sizes) (scan : Found) (t : Target) (new : List ℕ) where
  -- the steps for a LEB with a winner
  abbrev pub mapped_steps : Site → Site → List Step
  mapped_steps copy old =
      copy_on s scan copy (copy_header (target_header t) (scan.top_sqnum + 1) new) new old old.ec

  -- the steps for a LEB without a winner
  abbrev pub unmapped_steps : Site → Site → List Step
  unmapped_steps first copy =
      mount_on s scan first (blank_header (target_header t) (scan.top_sqnum + 1))
      ++ copy_on s scan copy (copy_header (target_header t) (scan.top_sqnum + 2) new) new first
      (ready_on scan first)

  -- the steps for a LEB with or without a winner
  abbrev pub steps_on : OnSites → List Step
  steps_on (on.Mapped copy old) = mapped_steps copy old
  steps_on (on.Unmapped first copy) = unmapped_steps first copy

-- the steps by what was read for them
pub record AreStepsOf (s : Sizes) (av : Avoided) (p : Prepared) (id lnum : ℕ) (new : List ℕ) (steps : List Step) : Type 0 where
  pub target : Target
  pub asked : IsTarget s p.ground.surveyed.records id lnum new target
  pub sites : OnSites
  pub are : AreSites (raised av.above p.ground.surveyed.scan) p.winner p.ground.taken.items sites
  pub is : steps ≡ steps_on s (raised av.above p.ground.surveyed.scan) target new sites

-- why there are no steps: memory ran out, or the first cause that applies
abbrev pub IsUnplanned : Sizes → Avoided → Prepared → ℕ → ℕ → List ℕ → ChangeRefusal → Type 0
IsUnplanned s av p id lnum new c =
    (c ≡ refusal.Memory)
    ⊎ IsTargetRefusal s p.ground.surveyed.records id lnum new c
    ⊎ ((target : Target) × IsTarget s p.ground.surveyed.records id lnum new target
    × IsSitesRefusal (raised av.above p.ground.surveyed.scan) p.winner p.ground.taken.items c)

-- an error of a call that writes nothing
abbrev pub IsNoWrite : StreamError → Type 0
IsNoWrite (stream.Write _) = ⊥
IsNoWrite _ = Unit {0}

-- what such an error says about a plan
abbrev pub change_error : StreamError → PlanError ChangeRefusal
change_error (stream.Refused c) = plan.Refused (refusal.Attach c)
change_error (stream.Read p written) = plan.Read p
change_error _ = plan.Refused refusal.Memory
