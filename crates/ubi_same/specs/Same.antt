-- What comparing two images answers.
use Rattle.std.specs.Prelude.{◌≡◌, ◌↔◌, ℕ, Bool, IsTrue, List}
use Rattle.ubi_media.specs.Geometry.{Sizes}
use Rattle.ubi_scan.specs.Image.{Image, image_of}
use Rattle.ubi_volume.specs.Accepts.{Accepts}
use Rattle.ubi_volume.specs.Meant.{Meant}
use Rattle.ubi_compose.specs.Normal.{normal_bytes}
use Rattle.ubi_compare.specs.Compared.{IsComparison}

-- whether two images mean the same, which they do exactly if their normal images are the same
pub record IsSame (a b : Image) (answer : Bool) : Type 0 where
  pub left : Meant
  pub right : Meant
  pub left_means : Accepts a left
  pub right_means : Accepts b right
  pub meanings : IsTrue answer ↔ (left ≡ right)
  pub images : IsTrue answer ↔ (normal_bytes left ≡ normal_bytes right)

-- what comparing two images of one geometry answers is also whether their normal images are the same
abbrev pub ComparesNormalImages : Type 0
ComparesNormalImages = (s : Sizes) (a b : List ℕ) (answer : Bool) → IsComparison (image_of s a) (image_of s b) answer
    → IsSame (image_of s a) (image_of s b) answer
