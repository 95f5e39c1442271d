-- What comparing two sources answers.
use Rattle.std.specs.Prelude.{◌≡◌, ◌↔◌, ℕ, Bool, IsTrue, List, [], Result, Err}
use Rattle.ubi_media.specs.Geometry.{IsGeometry, Sizes}
use Rattle.ubi_scan.specs.Image.{Image, image_of}
use Rattle.ubi_scan.specs.Source.{Agreed, Source, WhereHeld}
use Rattle.ubi_scan.specs.Stream.{NamesBlock, after_error}
use Rattle.ubi_volume.specs.Accepts.{Accepts, Refuses}
use Rattle.ubi_volume.specs.Meant.{Meant}
use Rattle.ubi_volume.specs.Places.{ArePlacesError}
use Rattle.ubi_compare.specs.Differences.{differences}
use Rattle.ubi_compare.specs.declared.difference.Difference.{Difference}
use Rattle.ubi_compare.specs.declared.errors.CompareError.{CompareError}
use Rattle.ubi_compare.specs.declared.errors.CompareError.TheVariants as error
use Rattle.ubi_compare.specs.declared.errors.CompareFault.{CompareFault}
use Rattle.ubi_compare.specs.declared.errors.CompareFault.TheVariants as fault

-- whether two images of a geometry mean the same
pub record IsComparison (a b : Image) (answer : Bool) : Type 0 where
  pub left : Meant
  pub right : Meant
  pub left_means : Accepts a left
  pub right_means : Accepts b right
  pub limits : IsGeometry left.sizes
  pub meanings : IsTrue answer ↔ (left ≡ right)

-- the differences of two images, of which there are none exactly if they mean the same
pub record AreDifferences (a b : Image) (told : List Difference) : Type 0 where
  pub left : Meant
  pub right : Meant
  pub left_means : Accepts a left
  pub right_means : Accepts b right
  pub differences : told ≡ differences left right
  pub none : (told ≡ []) ↔ (left ≡ right)

-- why two images aren't compared: the first is refused, or only the second is
abbrev pub IsCompareError : Image → Image → CompareError → Type 0
IsCompareError a b (error.Left c) = Refuses a c
IsCompareError a b (error.Right c) = ((m : Meant) × Accepts a m) × Refuses b c
IsCompareError a b error.Memory = Unit {0}

-- a fact about whatever two sources may hold
abbrev pub WhereBothHeld : Agreed → Agreed → (List ℕ → List ℕ → Type 0) → Type 0
WhereBothHeld k l fact = WhereHeld k (λ left. WhereHeld l (λ right. fact left right))

-- what is known of the left source after a comparison: one read failed if the answer is a read of that side
abbrev pub after_left : {A : Type 0} → Source → Result A CompareFault → Source
after_left k (Err (fault.Left e)) = after_error k e
after_left k _ = k

-- what is known of the right source after a comparison, in the same way
abbrev pub after_right : {A : Type 0} → Source → Result A CompareFault → Source
after_right k (Err (fault.Right e)) = after_error k e
after_right k _ = k

-- if a read of a side failed, the answer names the eraseblock in which that read began
abbrev pub NamesSide : Sizes → ℕ → ℕ → CompareFault → Type 0
NamesSide s left right (fault.Left e) = NamesBlock s left e
NamesSide s left right (fault.Right e) = NamesBlock s right e
NamesSide s left right fault.Memory = Unit {0}

-- why two sources aren't compared: the left one isn't attached, or only the right one isn't; a read of a side failed
-- later; or memory ran out
abbrev pub IsCompareFault : Sizes → Source → Agreed → Source → Agreed → CompareFault → Type 0
IsCompareFault s k left l right (fault.Left e) = ArePlacesError s k left e
IsCompareFault s k left l right (fault.Right e) =
    WhereHeld left (λ bytes. (m : Meant) × Accepts (image_of s bytes) m) × ArePlacesError s l right e
IsCompareFault s k left l right fault.Memory = Unit {0}
