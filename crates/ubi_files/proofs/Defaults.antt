-- A page above the largest is no page size.
use Rattle.ubi_files.proofs.Prelude.{◌≡◌, ℕ, ◌<◌, ◌==◌, false, refl, arith, list_any, nat_tests, Sizes, page_sizes, first_broken}
use Rattle.std.proofs.Common.{Some}
use Rattle.ubi_media.specs.declared.geometry.GeometryError.TheVariants as fault

no_page_size : (page : ℕ) → 65536 < page → list_any (λ size. size == page) page_sizes ≡ false
no_page_size page h = grind (arith, nat_tests)

pub page_too_large : (s : Sizes) → 65536 < s.page → first_broken s ≡ Some fault.Page
unfolding first_broken
page_too_large s h = rw (no_page_size s.page h) refl
