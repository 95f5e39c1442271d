-- The normal image is the same bytes with each page.
use Rattle.ubi_compose.proofs.Prelude.{◌≡◌, ℕ, List, refl, sym, ◌∙◌, ◌∣◌, rec_bytes, Image, Meant, image_with_page, meaning_with_page, lesser_page, IsNormalised, normal_bytes, NormalWithLesserPage}

same_normal : (m : Meant) (page : ℕ) → normal_bytes (meaning_with_page m page) ≡ normal_bytes m
unfolding normal_bytes rec_bytes
same_normal m page = refl

pub normal_kept : (image : Image) (out : List ℕ) (page : ℕ) → page ∣ image.sizes.page → IsNormalised image out
    → IsNormalised (image_with_page image page) out
normal_kept image out page divides h =
    (meaning_with_page h.0 page, lesser_page.accepted image h.0 page divides h.1, h.2 ∙ sym (same_normal h.0 page))

pub normal_with_lesser_page : NormalWithLesserPage
normal_with_lesser_page = record { same = same_normal; kept = normal_kept }
