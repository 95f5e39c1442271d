-- The contents of two static volumes, which are read side by side, piece by piece.
use Rattle.std.specs.Prelude.{◌≡◌, ◌↔◌, ℕ, Bool, IsTrue, List, None, Some, false, length, min}
use Rattle.std.specs.FinMap.{get}
use Rattle.ubi_media.specs.Geometry.{Sizes}
use Rattle.ubi_media.specs.Record.{rec_fault, usable}
use Rattle.ubi_media.specs.declared.vid.VolKind.TheVariants as kind
use Rattle.ubi_scan.specs.Source.{Agreed, Source, blocks_of}
use Rattle.ubi_volume.specs.Meant.{pieces}
use Rattle.ubi_volume.specs.Survey.{IsSurveyOf, Seen}
use Rattle.ubi_volume.specs.Texts.{PieceIs, SizeIsRead, TextLebs}
use Rattle.ubi_volume.specs.declared.content.Content.TheVariants as content
use Rattle.ubi_volume.specs.declared.content.Volume.{Volume}
use Rattle.ubi_compare.specs.inner.Ranges.{HaveTold}
use Rattle.ubi_compare.specs.inner.Sides.{OfMeanings, OfVolumes}
use Rattle.ubi_compare.specs.declared.ranges.Ranges.{Ranges}
use Rattle.ubi_compare.specs.declared.pieces.LebsOfBoth.{LebsOfBoth}
use Rattle.ubi_compare.specs.declared.pieces.OneText.{OneText}
use Rattle.ubi_compare.specs.declared.pieces.Pieces.{Pieces}
use Rattle.ubi_compare.specs.declared.texts.Texts.{Texts}

-- a static volume of a side, without the update marker
pub record IsTextOf (s : Sizes) (k : Source) (agrees : Agreed) (id : ℕ) (side : OneText) : Type 0 where
  pub survey : IsSurveyOf s k agrees side.survey.now
  pub recorded : get side.survey.now.records.of id ≡ Some side.entry.now
  pub sound : rec_fault s side.entry.now ≡ None
  pub unmarked : side.entry.now.marker ≡ false
  pub static : side.entry.now.kind ≡ kind.Static

-- the contents of each take this many LEBs, if they are whole
abbrev pub BothLie : Sizes → ℕ → OneText → OneText → List ℕ → List ℕ → LebsOfBoth → Type 0
BothLie s id here there x y lebs =
    TextLebs s (blocks_of s x) id here.entry.now (Some lebs.left)
    × TextLebs s (blocks_of s y) id there.entry.now (Some lebs.right)

-- the pieces in a LEB were read, and whether they are the same
pub record ArePieces (s : Sizes) (id : ℕ) (lebs : LebsOfBoth) (lnum : ℕ) (x y : List ℕ) (p : Pieces) : Type 0 where
  pub one : List ℕ
  pub other : List ℕ
  pub left : PieceIs s (blocks_of s x) id lebs.left lnum (Some one)
  pub right : PieceIs s (blocks_of s y) id lebs.right lnum (Some other)
  pub left_len : p.left ≡ length one
  pub right_len : p.right ≡ length other
  pub same : IsTrue p.is_same ↔ (one ≡ other)

-- a volume reads contents that take this many LEBs
abbrev pub IsText : Sizes → ℕ → Volume → Type 0
IsText s used v = (t : List ℕ) × (v.content ≡ content.Static t) × (pieces (usable s v.entry) (length t) ≡ used)

-- contents go on from the pieces below a LEB, which have a number of bytes, and have a number of bytes in all
abbrev pub GoesOn : Sizes → List (List ℕ) → ℕ → ℕ → ℕ → ℕ → ℕ → Type 0
GoesOn s bs id used first bytes whole = SizeIsRead s bs id used first bytes → SizeIsRead s bs id used used whole

-- these of the first n LEBs were found, which read differently if both contents are whole; in brief only whether there is one
abbrev pub AreToldApart : Bool → Sizes → ℕ → LebsOfBoth → ℕ → Seen → Seen → List ℕ → List ℕ → Ranges → Type 0
AreToldApart brief s id lebs n p q x y ranges =
    OfMeanings s p q x y
    (λ a b. OfVolumes id a b (λ v w. IsText s lebs.left v → IsText s lebs.right w → HaveTold brief s id v w ranges n))

-- the first n pieces of both contents were read
pub record AreReadTexts (brief : Bool) (s : Sizes) (id : ℕ) (lebs : LebsOfBoth) (n : ℕ) (p q : Seen) (x y : List ℕ)
    (t : Texts) : Type 0 where
  pub left : SizeIsRead s (blocks_of s x) id lebs.left n t.left
  pub right : SizeIsRead s (blocks_of s y) id lebs.right n t.right
  pub found : AreToldApart brief s id lebs n p q x y t.ranges

-- all pieces of both contents were read, and compared where both have one
pub record AreWholeTexts (brief : Bool) (s : Sizes) (id : ℕ) (lebs : LebsOfBoth) (p q : Seen) (x y : List ℕ)
    (t : Texts) : Type 0 where
  pub left : SizeIsRead s (blocks_of s x) id lebs.left lebs.left t.left
  pub right : SizeIsRead s (blocks_of s y) id lebs.right lebs.right t.right
  pub found : AreToldApart brief s id lebs (min lebs.left lebs.right) p q x y t.ranges
