-- What was read of an image for a plan of edits.
use Rattle.std.specs.Prelude.{◌≡◌, Bool, true, false, List, length, map}
use Rattle.ubi_media.specs.Geometry.{Sizes}
use Rattle.ubi_scan.specs.Image.{Image, image_of}
use Rattle.ubi_scan.specs.Source.{Agreed, Source, WhereHeld}
use Rattle.ubi_volume.specs.Survey.{IsSurvey, IsSurveyOf, Seen}
use Rattle.ubi_volume.specs.declared.places.PlaceContent.{PlaceContent}
use Rattle.ubi_volume.specs.declared.places.PlaceContent.TheVariants as place
use Rattle.ubi_change.specs.Avoided.{Avoided}
use Rattle.ubi_change.specs.EditFaults.{reads_whole}
use Rattle.ubi_change.specs.inner.Renaming.{AreHoldersOf}
use Rattle.ubi_change.specs.declared.edit.Edit.{Edit}
use Rattle.ubi_change.specs.declared.known.Known.{Known}

-- whether a case is one of contents that are neither updating nor damaged
abbrev pub is_whole_case : PlaceContent → Bool
is_whole_case place.Updating = false
is_whole_case place.Damaged = false
is_whole_case _ = true

-- whether the volume of an edit reads whole, by the meaning that was surveyed
abbrev pub IsWholeRead : Image → Seen → Edit → Bool → Type 0
IsWholeRead image v e whole = (h : IsSurvey image v) → whole ≡ reads_whole h.meaning e

-- the same of all edits
abbrev pub AreWholes : Image → Seen → List Edit → List Bool → Type 0
AreWholes image v es wholes = (h : IsSurvey image v) → wholes ≡ map (reads_whole h.meaning) es

-- what was read of a source: the survey, of each edit whether its volume reads whole, and the eraseblocks that hold the copies
pub record IsKnown (s : Sizes) (k : Source) (agrees : Agreed) (av : Avoided) (es : List Edit) (known : Known) : Type 0 where
  pub survey : IsSurveyOf s k agrees known.surveyed
  pub count : length known.wholes.items ≡ length es
  pub wholes : WhereHeld agrees (λ bytes. AreWholes (image_of s bytes) known.surveyed es known.wholes.items)
  pub holders : AreHoldersOf s k agrees av known.surveyed known.holders
