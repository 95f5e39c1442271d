-- Laws of the page, which no header names, as they stand on functions that do nothing.
use Rattle.std.specs.Prelude.{◌≡◌, ℕ, ◌⊎◌}
use Rattle.std.specs.Int.{◌∣◌}
use Rattle.ubi_media.specs.OtherPage.{with_page}
use Rattle.ubi_media.specs.declared.record.RecFault.TheVariants as fault
use Rattle.ubi_media.specs.declared.refusal.Refusal.{Refusal}
use Rattle.ubi_media.specs.declared.refusal.Refusal.TheVariants as refusal
use Rattle.ubi_scan.specs.Image.{Image}
use Rattle.ubi_volume.specs.Accepts.{Accepts, Refuses}
use Rattle.ubi_volume.specs.Attached.{IsAttached, AttachValue}
use Rattle.ubi_volume.specs.Meant.{Meant}

-- the same bytes under sizes with another page
abbrev pub image_with_page : Image → ℕ → Image
image_with_page image page = record { sizes = with_page image.sizes page; bytes = image.bytes }

-- the same meaning, with another page in its sizes
abbrev pub meaning_with_page : Meant → ℕ → Meant
meaning_with_page m page = record m { sizes = with_page m.sizes page }

-- two pages, one of which divides the other, with all other sizes equal: an image that is accepted with the greater one
-- is accepted with the lesser one, with the same meaning except for the page, and the rest of what attaching it gives
-- is the same; an image that is refused with the lesser one isn't accepted with the greater one; if both accept it, the
-- meanings are the same except for the page; an image that is accepted with the lesser one is accepted with the greater
-- one, or refused for a record whose alignment isn't a multiple of the greater one
pub record LesserPage : Type 0 where
  pub accepted : (image : Image) (m : Meant) (page : ℕ) → page ∣ image.sizes.page → Accepts image m
      → Accepts (image_with_page image page) (meaning_with_page m page)
  pub attached : (image : Image) (a : AttachValue) (page : ℕ) → page ∣ image.sizes.page → IsAttached image a
      → IsAttached (image_with_page image page) (record a { meaning = meaning_with_page a.meaning page })
  pub refused : (image : Image) (m : Meant) (c : Refusal) (page : ℕ) → page ∣ image.sizes.page
      → Refuses (image_with_page image page) c → Accepts image m → ⊥
  pub same : (image : Image) (m n : Meant) (page : ℕ) → page ∣ image.sizes.page → Accepts image m
      → Accepts (image_with_page image page) n → n ≡ meaning_with_page m page
  pub greater : (image : Image) (m : Meant) (page : ℕ) → page ∣ image.sizes.page
      → Accepts (image_with_page image page) m
      → Accepts image (meaning_with_page m image.sizes.page)
      ⊎ ((p slot : ℕ) × Refuses image (refusal.Record p slot fault.AlignmentPage))
