-- Laws of the page, which no header names, as they stand on functions that do nothing.
use Rattle.std.specs.Prelude.{◌≡◌, ℕ, List}
use Rattle.std.specs.Int.{◌∣◌}
use Rattle.ubi_media.specs.Geometry.{IsGeometry}
use Rattle.ubi_media.specs.OtherPage.{with_page}
use Rattle.ubi_media.specs.declared.refusal.Refusal.{Refusal}
use Rattle.ubi_scan.specs.Image.{Image}
use Rattle.ubi_volume.specs.Accepts.{Accepts, Refuses}
use Rattle.ubi_volume.specs.Meant.{Meant}
use Rattle.ubi_volume.specs.PageLaws.{image_with_page, meaning_with_page}
use Rattle.ubi_compose.specs.Normal.{IsNormalised, normal_bytes}

-- the normal image of a meaning is the same bytes with each page; so an image is normalised to the same bytes with each
-- page of which its own is a multiple
pub record NormalWithLesserPage : Type 0 where
  pub same : (m : Meant) (page : ℕ) → normal_bytes (meaning_with_page m page) ≡ normal_bytes m
  pub kept : (image : Image) (out : List ℕ) (page : ℕ) → page ∣ image.sizes.page → IsNormalised image out
      → IsNormalised (image_with_page image page) out

-- a page can accept what a multiple of it refuses: there is such an image, under two geometries
abbrev pub LesserAcceptsMore : Type 0
LesserAcceptsMore =
    (image : Image) × (m : Meant) × (page : ℕ) × (page ∣ image.sizes.page)
    × IsGeometry image.sizes × IsGeometry (with_page image.sizes page)
    × Accepts (image_with_page image page) m × ((c : Refusal) × Refuses image c)
