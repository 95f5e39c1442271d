-- What holds for a plan of edits, and why edits of a source aren't planned.
use Rattle.std.specs.Prelude.{◌≡◌, ℕ, ◌+◌, ◌<◌, ◌≤◌, List, Some, length, slice_get}
use Rattle.std.specs.List.{AllByRecursion}
use Rattle.ubi_media.specs.Geometry.{Sizes}
use Rattle.ubi_scan.specs.Image.{Image, IsWholeSize, image_of, of_blocks}
use Rattle.ubi_scan.specs.Source.{Agreed, Source, WhereHeld, blocks_in}
use Rattle.ubi_scan.specs.declared.errors.StreamError.TheVariants as stream
use Rattle.ubi_volume.specs.Attached.{AttachValue, IsAttached}
use Rattle.ubi_laid.specs.declared.part.Part.{Part}
use Rattle.ubi_volume.specs.Places.{ArePlacesError}
use Rattle.ubi_change.specs.Avoided.{AllBeside, Avoided, IsNotBlank, ReadBlank, avoiding, touchable}
use Rattle.ubi_change.specs.CommitAllowed.{MayBeCommitted}
use Rattle.ubi_change.specs.CommitPlan.{edits_plan}
use Rattle.ubi_change.specs.CommitPlanned.{CommitFacts}
use Rattle.ubi_change.specs.EditsAsked.{all_asked, first_beyond}
use Rattle.ubi_change.specs.Fitting.{AllWithin}
use Rattle.ubi_change.specs.Laying.{all_layings}
use Rattle.ubi_change.specs.RenamePlan.{table_pages}
use Rattle.ubi_change.specs.UpdatePlan.{in_order, plan_groups}
use Rattle.ubi_change.specs.UpdateRefused.{IsRename, StopsRenames, UpdateStands, asked_parts, asked_records, update_rank}
use Rattle.ubi_change.specs.declared.edit.Edit.{Edit}
use Rattle.ubi_change.specs.declared.errors.UpdateError.{UpdateError}
use Rattle.ubi_change.specs.declared.errors.UpdateError.TheVariants as error
use Rattle.ubi_change.specs.declared.errors.UpdateRefusal.{UpdateRefusal}
use Rattle.ubi_change.specs.declared.errors.UpdateRefusal.TheVariants as refusal
use Rattle.ubi_change.specs.declared.step.Step.{Step}
use Rattle.ubi_change.specs.declared.update.UpdatePlan.{UpdatePlan}

-- for an image and the bytes of the source of contents: no cause stands, the plan has each LEB of each volume that is written, its steps
-- are those of the commit of the edits, as the plan sees the image, and all holds for them that holds for such a commit
pub record IsUpdateFor (image : Image) (av : Avoided) (contents : List ℕ) (es : List Edit) (p : UpdatePlan) : Type 0 where
  pub from : AttachValue
  pub attached : IsAttached image from
  pub blank : of_blocks ReadBlank image av
  pub none : (c : UpdateRefusal) → of_blocks UpdateStands image av.ends (avoiding av from) contents (touchable av from.states) es c → ⊥
  pub allowed : of_blocks MayBeCommitted image av.ends (avoiding av from) (all_asked image.sizes contents es)
  pub parts : p.parts.items ≡ of_blocks asked_parts image av.ends from es
  pub pages : p.pages.items ≡ table_pages image.sizes (of_blocks asked_records image av.ends from es)
  pub layings : p.layings.items ≡ all_layings image.sizes contents (of_blocks asked_parts image av.ends from es)
  pub plan : in_order (plan_groups image.sizes p contents) ≡ of_blocks edits_plan image av.ends (avoiding av from) (all_asked image.sizes contents es)
  pub facts : CommitFacts image av (avoiding av from) (all_asked image.sizes contents es)

-- the same for whatever two sources may hold
abbrev pub IsPlannedUpdate : Sizes → Agreed → Agreed → Avoided → List Edit → UpdatePlan → Type 0
IsPlannedUpdate s agrees agreed av es p =
    WhereHeld agrees (λ bytes. WhereHeld agreed (λ contents. IsUpdateFor (image_of s bytes) av contents es p))

-- for an image and the bytes of the source of contents: nothing that is listed holds anything, a cause stands as the plan sees the
-- image, and none before it in their order does
pub record IsUpdateCause (image : Image) (av : Avoided) (contents : List ℕ) (es : List Edit) (c : UpdateRefusal) : Type 0 where
  pub from : AttachValue
  pub attached : IsAttached image from
  pub blank : of_blocks ReadBlank image av
  pub stands : of_blocks UpdateStands image av.ends (avoiding av from) contents (touchable av from.states) es c
  pub first : (d : UpdateRefusal) → update_rank d < update_rank c
      → of_blocks UpdateStands image av.ends (avoiding av from) contents (touchable av from.states) es d → ⊥

-- edits that only give volumes other names are stopped by what can stop these, whatever the sources hold
abbrev pub StopsIfRenames : List Edit → UpdateError → Type 0
StopsIfRenames es (error.Refused c) = AllByRecursion IsRename es → StopsRenames c
StopsIfRenames es _ = Unit {0}

-- a place in the source of contents lies in the bytes of the i-th of the volumes that edits of an image write
pub record IsAskedAt (image : Image) (av : Avoided) (es : List Edit) (i at : ℕ) : Type 0 where
  pub from : AttachValue
  pub attached : IsAttached image from
  pub part : Part
  pub asked : slice_get (of_blocks asked_parts image av.ends from es) i ≡ Some part
  pub begins : part.start ≤ at
  pub ends : at < part.start + part.len

-- why edits of the image of a source aren't planned, whatever it and the source of contents, of which the size is known, may hold; the last
-- read of contents that failed began at a place
abbrev pub IsUpdateError : Sizes → Source → Agreed → ℕ → ℕ → Agreed → Avoided → List Edit → UpdateError → Type 0
IsUpdateError s k agrees size at agreed av es (error.Beyond i) = first_beyond size es ≡ Some i
IsUpdateError s k agrees size at agreed av es (error.Read p) = IsWholeSize s k.size × (p < blocks_in s k)
IsUpdateError s k agrees size at agreed av es (error.NotBlank p) =
    IsWholeSize s k.size × WhereHeld agrees (λ bytes. of_blocks IsNotBlank (image_of s bytes) av p)
IsUpdateError s k agrees size at agreed av es (error.Contents i) = WhereHeld agrees (λ bytes. IsAskedAt (image_of s bytes) av es i at)
IsUpdateError s k agrees size at agreed av es (error.Refused refusal.Memory) = Unit {0}
IsUpdateError s k agrees size at agreed av es (error.Refused (refusal.Attach c)) = ArePlacesError s k agrees (stream.Refused c)
IsUpdateError s k agrees size at agreed av es (error.Refused c) =
    IsWholeSize s k.size
    × WhereHeld agrees (λ bytes. WhereHeld agreed (λ contents. IsUpdateCause (image_of s bytes) av contents es c))

-- for an image and contents: no cause stands, and the steps are those of the commit of the edits, as the plan sees the image; and all
-- holds for them that holds for such a commit
pub record AreUpdateSteps (image : Image) (av : Avoided) (contents : List ℕ) (es : List Edit) (steps : List Step) : Type 0 where
  pub from : AttachValue
  pub attached : IsAttached image from
  pub blank : of_blocks ReadBlank image av
  pub allowed : of_blocks MayBeCommitted image av.ends (avoiding av from) (all_asked image.sizes contents es)
  pub plan : steps ≡ of_blocks edits_plan image av.ends (avoiding av from) (all_asked image.sizes contents es)
  pub facts : CommitFacts image av (avoiding av from) (all_asked image.sizes contents es)

-- the steps for the image of a source: each works within one of its eraseblocks, and on none that is listed, and they are right for
-- whatever the source may hold
pub record ArePlannedSteps (s : Sizes) (k : Source) (agrees : Agreed) (av : Avoided) (contents : List ℕ) (es : List Edit) (steps : List Step)
    : Type 0 where
  pub whole : IsWholeSize s k.size
  pub within : AllWithin s (blocks_in s k) steps
  pub beside : AllBeside av.marks steps
  pub held : WhereHeld agrees (λ bytes. AreUpdateSteps (image_of s bytes) av contents es steps)

-- why edits aren't planned, where the source of contents holds these bytes
abbrev pub IsUpdateErrorIn : Sizes → Source → Agreed → Avoided → List ℕ → List Edit → UpdateError → Type 0
IsUpdateErrorIn s k agrees av contents es e = IsUpdateError s k agrees (length contents) 0 (λ held. held ≡ contents) av es e
