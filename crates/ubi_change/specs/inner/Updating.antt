-- What a plan of edits is based on.
use Rattle.std.specs.Prelude.{◌≡◌, ◌≢◌, ℕ, ◌%◌, ◌^◌, ◌≤◌, ◌<◌, Bool, List, [], ◌∷◌, length, Option, None, Some, slice_get}
use Rattle.std.specs.Option.{option_or}
use Rattle.ubi_media.specs.Fields.{AreBytes}
use Rattle.ubi_media.specs.Geometry.{Sizes, leb_size}
use Rattle.ubi_scan.specs.Image.{IsWholeSize, image_of, of_blocks}
use Rattle.ubi_scan.specs.Source.{Agreed, Source, WhereHeld, blocks_in}
use Rattle.ubi_scan.specs.declared.errors.StreamError.{StreamError}
use Rattle.ubi_scan.specs.declared.errors.StreamError.TheVariants as stream
use Rattle.ubi_volume.specs.Places.{ArePlacesError}
use Rattle.ubi_volume.specs.Survey.{IsSurveyOf}
use Rattle.ubi_change.specs.Avoided.{Avoided, IsNotBlank, touchable}
use Rattle.ubi_change.specs.UpdatePlanned.{IsUpdateCause}
use Rattle.ubi_change.specs.inner.Known.{AreWholes}
use Rattle.ubi_change.specs.inner.Laying.{AreReadable}
use Rattle.ubi_change.specs.inner.Ready.{IsReady}
use Rattle.ubi_change.specs.inner.Renaming.{AreHoldersOf}
use Rattle.ubi_change.specs.inner.Taking.{NotBlankIs, listed_site}
use Rattle.ubi_change.specs.declared.edit.Edit.{Edit}
use Rattle.ubi_change.specs.declared.errors.UpdateError.{UpdateError}
use Rattle.ubi_change.specs.declared.errors.UpdateError.TheVariants as error
use Rattle.ubi_change.specs.declared.errors.UpdateRefusal.TheVariants as refusal
use Rattle.ubi_change.specs.declared.sites.Site.{Site}
use Rattle.ubi_change.specs.declared.update.UpdatePlan.{UpdatePlan}
use Rattle.ubi_change.specs.declared.updating.Based.{Based}
use Rattle.ubi_change.specs.declared.written_out.Ready.{Ready}

-- what an error of a reading says about edits
abbrev pub update_error : StreamError → UpdateError
update_error (stream.Refused c) = error.Refused (refusal.Attach c)
update_error (stream.Read p written) = error.Read p
update_error _ = error.Refused refusal.Memory

-- the pages of the new table are whole, and fit into a LEB
pub record HasPages (s : Sizes) (r : Ready) : Type 0 where
  pub paged : length r.pages.items % s.page ≡ 0
  pub short : length r.pages.items < 2 ^ 31
  pub fit : length r.pages.items ≤ leb_size s
  pub bytes : AreBytes r.pages.items

-- what was read of a source for edits, and what they write: nothing that is listed holds anything, and no cause stands up to the CRC of
-- the new table, whatever the source may hold
pub record IsBased (s : Sizes) (k : Source) (agrees : Agreed) (av : Avoided) (es : List Edit) (b : Based) : Type 0 where
  pub survey : IsSurveyOf s k agrees b.surveyed
  pub blank : NotBlankIs av.marks b.surveyed.states None
  pub wholes : List Bool
  pub read : WhereHeld agrees (λ bytes. AreWholes (image_of s bytes) b.surveyed es wholes)
  pub holders : AreHoldersOf s k agrees av b.surveyed (Some b.ready.holders)
  pub ready : IsReady s b.surveyed av.ends wholes (Some b.ready.holders) es (touchable av b.surveyed.states) b.ready
  pub readable : AreReadable s es b.ready.parts.items
  pub pages : HasPages s b.ready
  pub most : touchable av b.surveyed.states ≤ s.pebs

-- the number of the first listed eraseblock that a plan works on, if there is one
abbrev pub listed_in : List Bool → UpdatePlan → Option ℕ
listed_in marks p = option_or (listed_site marks p.sites.items) (listed_site marks (p.holders.first ∷ p.holders.second ∷ []))

-- why a plan of edits has nothing to be based on: a read failed, or something that is listed isn't Blank, or a cause stands up to the CRC
-- of the new table, whatever the contents; or memory ran out
abbrev pub IsUnbased : Sizes → Source → Agreed → Avoided → List Edit → UpdateError → Type 0
IsUnbased s k agrees av es (error.Beyond i) = ⊥
IsUnbased s k agrees av es (error.Contents id) = ⊥
IsUnbased s k agrees av es (error.Read p) = IsWholeSize s k.size × (p < blocks_in s k)
IsUnbased s k agrees av es (error.NotBlank p) =
    IsWholeSize s k.size × WhereHeld agrees (λ bytes. of_blocks IsNotBlank (image_of s bytes) av p)
IsUnbased s k agrees av es (error.Refused refusal.Memory) = Unit {0}
IsUnbased s k agrees av es (error.Refused (refusal.Attach c)) = ArePlacesError s k agrees (stream.Refused c)
IsUnbased s k agrees av es (error.Refused c) =
    IsWholeSize s k.size × WhereHeld agrees (λ bytes. (contents : List ℕ) → IsUpdateCause (image_of s bytes) av contents es c)

-- the k-th group of a plan works on other eraseblocks than q: not on the one that it takes, and if it writes a copy of the table, not on
-- those that hold one
pub record IsApart (p : UpdatePlan) (k q : ℕ) : Type 0 where
  pub site : (t : Site) → slice_get p.sites.items k ≡ Some t → t.pnum ≢ q
  pub first : length p.layings.items ≤ k → p.holders.first.pnum ≢ q
  pub second : length p.layings.items ≤ k → p.holders.second.pnum ≢ q
