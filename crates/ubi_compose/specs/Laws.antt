-- Laws of normalising, as they stand on functions that do nothing.
use Rattle.std.specs.Prelude.{◌≡◌, ◌↔◌, ℕ, List}
use Rattle.ubi_media.specs.Geometry.{IsGeometry}
use Rattle.ubi_scan.specs.Image.{Image}
use Rattle.ubi_volume.specs.Accepts.{Accepts}
use Rattle.ubi_volume.specs.Meant.{Meant}
use Rattle.ubi_compose.specs.Normal.{IsNormalised}

-- normalising a normalised image gives it again
abbrev pub TwiceIsOnce : Type 0
TwiceIsOnce =
    (image : Image) (out : List ℕ) → IsGeometry image.sizes → IsNormalised image out → IsNormalised (record image { bytes = out }) out

-- two images mean the same
abbrev pub MeanTheSame : Image → Image → Type 0
MeanTheSame a b = (m : Meant) × Accepts a m × Accepts b m

-- of accepted images of one geometry, two mean the same exactly if their normalised images are equal byte for byte;
-- normalising keeps the meaning, and twice is once
pub record Normalising : Type 0 where
  pub equal : (a b : Image) (x y : List ℕ) → IsGeometry a.sizes → a.sizes ≡ b.sizes → IsNormalised a x → IsNormalised b y
      → MeanTheSame a b ↔ (x ≡ y)
  pub kept : (a : Image) (x : List ℕ) → IsGeometry a.sizes → IsNormalised a x → MeanTheSame a (record a { bytes = x })
  pub once : TwiceIsOnce
