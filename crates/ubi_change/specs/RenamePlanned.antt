-- What the plan of a rename is, what holds for it at every cut and at its end, and why there is none.
use Rattle.std.specs.Prelude.{◌≡◌, ℕ, ◌<◌, ◌≤◌, false, nat_lt, if◌then◌else◌, List, ◌∷◌, length, take, count_by}
use Rattle.ubi_media.specs.Geometry.{Sizes}
use Rattle.ubi_scan.specs.Image.{Image, IsWholeSize, eraseblocks, image_of, of_blocks}
use Rattle.ubi_scan.specs.Source.{Agreed, Source, WhereHeld, blocks_in}
use Rattle.ubi_scan.specs.declared.errors.StreamError.TheVariants as stream
use Rattle.ubi_table.specs.Table.{CopyIs}
use Rattle.ubi_table.specs.declared.copy.CopyRead.TheVariants as copy
use Rattle.ubi_volume.specs.Accepts.{Accepts, AcceptsBlocks, Refuses}
use Rattle.ubi_volume.specs.Attached.{IsAttached, AttachValue}
use Rattle.ubi_volume.specs.Meant.{Meant, records_of}
use Rattle.ubi_volume.specs.Places.{ArePlacesError}
use Rattle.ubi_change.specs.Cuts.{programs_copy, turn}
use Rattle.ubi_change.specs.Fitting.{AllFit, AllWithin}
use Rattle.ubi_change.specs.Frugal.{CountsErases, TouchesOnly}
use Rattle.ubi_change.specs.Order.{Erases, RisesBetweenErases}
use Rattle.ubi_change.specs.Renamed.{ReadSame, renamed}
use Rattle.ubi_change.specs.Tears.{SurvivesTears}
use Rattle.ubi_change.specs.RenamePlan.{holder, rename_plan, renamed_pages}
use Rattle.ubi_change.specs.RenameRefused.{BothGood, IsFirstCause, MayBeNamed}
use Rattle.ubi_change.specs.Avoided.{AllBeside, Avoided, Avoids, IsNotBlank, ReadBlank, avoiding}
use Rattle.ubi_change.specs.Steps.{blocks_after}
use Rattle.ubi_change.specs.Takeable.{ec_at, stays, takeable}
use Rattle.ubi_change.specs.declared.errors.PlanError.{PlanError}
use Rattle.ubi_change.specs.declared.errors.PlanError.TheVariants as error
use Rattle.ubi_change.specs.declared.errors.RenameRefusal.{RenameRefusal}
use Rattle.ubi_change.specs.declared.errors.RenameRefusal.TheVariants as refusal
use Rattle.ubi_change.specs.declared.step.Step.{Step}

-- after any number of steps the eraseblocks are accepted: before the commit point, which comes once the first copy is
-- whole, with the meaning m, and from it on with the renamed one; exactly two steps program the header of a copy
pub record SurvivesRename (s : Sizes) (bs : List (List ℕ)) (m : Meant) (id : ℕ) (name : List ℕ) (steps : List Step) : Type 0 where
  pub two_copies : count_by (programs_copy s) steps ≡ 2
  pub comes : turn s steps (renamed_pages s m id name) ≤ length steps
  pub each : (k : ℕ) → k ≤ length steps
      → AcceptsBlocks s (blocks_after s bs steps k) (if nat_lt k (turn s steps (renamed_pages s m id name)) then m else renamed m id name)

-- at the end both copies are good, with the table of the renamed meaning
abbrev pub LeavesBothGood : Sizes → List (List ℕ) → Meant → ℕ → List ℕ → List Step → Type 0
LeavesBothGood s bs m id name steps = BothGood s (blocks_after s bs steps (length steps)) (records_of (renamed m id name))

-- the steps touch only what they need, erase the holder of a copy once the new one is good, unless it stays, and count
-- each erase
pub record IsFrugalRename (s : Sizes) (bs : List (List ℕ)) (a : AttachValue) (id : ℕ) (name : List ℕ) (steps : List Step) : Type 0 where
  pub touches : TouchesOnly (holder s bs a 0 ∷ holder s bs a 1 ∷ take 2 (takeable s bs a.states)) steps
  pub gives_up : (c : ℕ) → c < 2 → stays s bs (holder s bs a c) (ec_at s bs (holder s bs a c)) ≡ false
      → (k : ℕ) × Erases steps k (holder s bs a c)
      × CopyIs s (blocks_after s bs steps k) c (copy.Good (records_of (renamed a.meaning id name)))
  pub counts : CountsErases s bs a steps

-- nothing applies against the rename, and the steps are those of its plan
pub record IsTheRename (image : Image) (id : ℕ) (name : List ℕ) (steps : List Step) : Type 0 where
  pub from : AttachValue
  pub attached : IsAttached image from
  pub allowed : of_blocks MayBeNamed image from id name
  pub plan : steps ≡ of_blocks rename_plan image from id name

-- the same for a plan that avoids something, as it sees the image
pub record IsRenameAvoiding (image : Image) (av : Avoided) (id : ℕ) (name : List ℕ) (steps : List Step) : Type 0 where
  pub from : AttachValue
  pub attached : IsAttached image from
  pub allowed : of_blocks MayBeNamed image (avoiding av from) id name
  pub plan : steps ≡ of_blocks rename_plan image (avoiding av from) id name

-- the image is accepted, and after any number of the steps it means the old or the renamed
abbrev pub SurvivesRenameOf : Image → ℕ → List ℕ → List Step → Type 0
SurvivesRenameOf image id name steps = (m : Meant) × Accepts image m × of_blocks SurvivesRename image m id name steps

-- the image is accepted, and if the power fails during any of the steps it means the old or the renamed
abbrev pub SurvivesRenameTearsOf : Image → ℕ → List ℕ → List Step → Type 0
SurvivesRenameTearsOf image id name steps =
    (m : Meant) × Accepts image m
    × of_blocks SurvivesTears image m (renamed m id name) steps (turn image.sizes steps (renamed_pages image.sizes m id name))

-- the image is accepted, and after any number of the steps each volume reads as before
abbrev pub KeepsReading : Image → List Step → Type 0
KeepsReading image steps = (m : Meant) × Accepts image m × ((k : ℕ) → k ≤ length steps
    → (n : Meant) × AcceptsBlocks image.sizes (blocks_after image.sizes (eraseblocks image) steps k) n × ReadSame m n)

-- the image is accepted, and at the end both copies have the table of what it then means
abbrev pub LeavesBothGoodOf : Image → ℕ → List ℕ → List Step → Type 0
LeavesBothGoodOf image id name steps = (m : Meant) × Accepts image m × of_blocks LeavesBothGood image m id name steps

-- the steps touch only what they need, erase what held the copies, and count each erase
abbrev pub IsFrugalRenameOf : Image → ℕ → List ℕ → List Step → Type 0
IsFrugalRenameOf image id name steps = (a : AttachValue) × IsAttached image a × of_blocks IsFrugalRename image a id name steps

-- the same for a plan that avoids something, as it sees the image
abbrev pub IsFrugalRenameAvoiding : Image → Avoided → ℕ → List ℕ → List Step → Type 0
IsFrugalRenameAvoiding image av id name steps =
    (a : AttachValue) × IsAttached image a × of_blocks IsFrugalRename image (avoiding av a) id name steps

-- why a rename isn't planned
abbrev pub IsRenameRefusal : Image → ℕ → List ℕ → RenameRefusal → Type 0
IsRenameRefusal image id name refusal.Memory = Unit {0}
IsRenameRefusal image id name (refusal.Attach c) = Refuses image c
IsRenameRefusal image id name c = (a : AttachValue) × IsAttached image a × of_blocks IsFirstCause image a id name c

-- the same for a plan that avoids something, as it sees the image
abbrev pub IsRenameRefusalAvoiding : Image → Avoided → ℕ → List ℕ → RenameRefusal → Type 0
IsRenameRefusalAvoiding image av id name refusal.Memory = Unit {0}
IsRenameRefusalAvoiding image av id name (refusal.Attach c) = Refuses image c
IsRenameRefusalAvoiding image av id name c =
    (a : AttachValue) × IsAttached image a × of_blocks IsFirstCause image (avoiding av a) id name c

-- what is shown of the steps for an image
pub record RenameFacts (image : Image) (av : Avoided) (id : ℕ) (name : List ℕ) (steps : List Step) : Type 0 where
  pub survives : SurvivesRenameOf image id name steps
  pub torn : SurvivesRenameTearsOf image id name steps
  pub reads : KeepsReading image steps
  pub copies : LeavesBothGoodOf image id name steps
  pub fits : of_blocks AllFit image steps
  pub rises : of_blocks RisesBetweenErases image steps
  pub frugal : IsFrugalRenameAvoiding image av id name steps
  pub plan : IsRenameAvoiding image av id name steps
  pub avoids : of_blocks Avoids image av steps
  pub blank : of_blocks ReadBlank image av

-- the steps for the image of a source: each works within one of its eraseblocks, and on none that is listed, and they are
-- right for whatever the source may hold
pub record IsPlannedRename (s : Sizes) (k : Source) (agrees : Agreed) (av : Avoided) (id : ℕ) (name : List ℕ) (steps : List Step) : Type 0 where
  pub whole : IsWholeSize s k.size
  pub within : AllWithin s (blocks_in s k) steps
  pub beside : AllBeside av.marks steps
  pub held : WhereHeld agrees (λ bytes. RenameFacts (image_of s bytes) av id name steps)

-- why the rename of a source isn't planned
abbrev pub IsRenameError : Sizes → Source → Agreed → Avoided → ℕ → List ℕ → PlanError RenameRefusal → Type 0
IsRenameError s k agrees av id name (error.Read p) = IsWholeSize s k.size × (p < blocks_in s k)
IsRenameError s k agrees av id name (error.NotBlank p) =
    IsWholeSize s k.size × WhereHeld agrees (λ bytes. of_blocks IsNotBlank (image_of s bytes) av p)
IsRenameError s k agrees av id name (error.Refused refusal.Memory) = Unit {0}
IsRenameError s k agrees av id name (error.Refused (refusal.Attach c)) = ArePlacesError s k agrees (stream.Refused c)
IsRenameError s k agrees av id name (error.Refused c) =
    IsWholeSize s k.size
    × WhereHeld agrees (λ bytes. of_blocks ReadBlank (image_of s bytes) av × IsRenameRefusalAvoiding (image_of s bytes) av id name c)
