-- The law of the page, which no header names, as it stands on a function that does nothing.
use Rattle.std.specs.Prelude.{◌≡◌, ℕ, ◌∷◌, Contains, List}
use Rattle.std.specs.Int.{◌∣◌}
use Rattle.ubi_media.specs.OtherPage.{with_page}
use Rattle.ubi_detect.specs.Detected.{AreDetected}
use Rattle.ubi_detect.specs.declared.detect.Detected.{Detected}
use Rattle.ubi_scan.specs.Image.{image_of}
use Rattle.ubi_volume.specs.Accepts.{Accepts}
use Rattle.ubi_volume.specs.Meant.{Meant}
use Rattle.ubi_volume.specs.PageLaws.{meaning_with_page}
use Rattle.ubi_compose.specs.Normal.{IsNormalised}

-- of what is found in a file, the one comes first, and the other is any of it
abbrev pub AreOfFirst : List ℕ → Detected → Detected → Type 0
AreOfFirst bytes first other = (rest : List Detected) × AreDetected bytes (first ∷ rest) × Contains (first ∷ rest) other

-- of what is found in a file, the first has a page that divides that of each other one, and the same place; if the
-- pages of another one have no out-of-band bytes, those of the first have none, and the sizes differ only in the page;
-- so an image that is accepted with the other one is accepted with the first, with the same meaning except for the
-- page, and with the same normal image
pub record LeastTold : Type 0 where
  pub page : (bytes : List ℕ) (first other : Detected) → AreOfFirst bytes first other
      → first.geometry.page ∣ other.geometry.page
  pub place : (bytes : List ℕ) (first other : Detected) → AreOfFirst bytes first other
      → (first.start ≡ other.start) × (first.length ≡ other.length)
  pub sizes : (bytes : List ℕ) (first other : Detected) → AreOfFirst bytes first other → other.oob ≡ 0
      → (first.oob ≡ 0) × (first.geometry ≡ with_page other.geometry first.geometry.page)
  pub accepted : (bytes image : List ℕ) (first other : Detected) (m : Meant) → AreOfFirst bytes first other
      → other.oob ≡ 0 → Accepts (image_of other.geometry image) m
      → Accepts (image_of first.geometry image) (meaning_with_page m first.geometry.page)
  pub normal : (bytes image out : List ℕ) (first other : Detected) → AreOfFirst bytes first other
      → other.oob ≡ 0 → IsNormalised (image_of other.geometry image) out
      → IsNormalised (image_of first.geometry image) out
