-- The numbers of a geometry are those that break no limit.
use Rattle.ubi_media.proofs.Prelude.{rules, ◌≡◌, Bool, true, false, cond, arith, refl, None, Option, Some, nat_tests, IsGeometry, Sizes, first_broken, keeps}
use Rattle.std.specs.Prelude.{not}
use Rattle.ubi_media.specs.declared.geometry.GeometryError.TheVariants as fault
use Rattle.ubi_media.proofs.Pages.{page_multiple}

-- where none is found that is broken, the first is kept, and none is found behind it
kept_first : {A : Type 0} (b : Bool) (x : A) (rest : Option A) → cond (not b) (Some x) rest ≡ None → (b ≡ true) × (rest ≡ None)
kept_first true x rest none = (refl, none)
kept_first false x rest none = absurd cc

-- all limits are kept
record AllKept (s : Sizes) : Type 0 where
  page : keeps s fault.Page ≡ true
  peb : keeps s fault.PebSize ≡ true
  vid : keeps s fault.VidOffset ≡ true
  first : keeps s fault.DataOffset ≡ true
  leb : keeps s fault.LebTooSmall ≡ true
  pebs : keeps s fault.Pebs ≡ true

all_kept : (s : Sizes) → first_broken s ≡ None → AllKept s
unfolding first_broken
all_kept s none =
    let page = kept_first (keeps s fault.Page) fault.Page _ none in
    let peb = kept_first (keeps s fault.PebSize) fault.PebSize _ page.1 in
    let vid = kept_first (keeps s fault.VidOffset) fault.VidOffset _ peb.1 in
    let first = kept_first (keeps s fault.DataOffset) fault.DataOffset _ vid.1 in
    let leb = kept_first (keeps s fault.LebTooSmall) fault.LebTooSmall _ first.1 in
    let pebs = kept_first (keeps s fault.Pebs) fault.Pebs _ leb.1 in
    record { page = page.0; peb = peb.0; vid = vid.0; first = first.0; leb = leb.0; pebs = pebs.0 }

none_broken : (s : Sizes) → AllKept s → first_broken s ≡ None
unfolding first_broken
none_broken s kept = rw (kept.page, kept.peb, kept.vid, kept.first, kept.leb, kept.pebs) refl

is_geometry : (s : Sizes) → AllKept s → IsGeometry s
is_geometry s kept =
    let size = page_multiple s.page kept.page in
    let peb = kept.peb in
    let vid = kept.vid in
    let first = kept.first in
    let leb = kept.leb in
    let pebs = kept.pebs in
    record {
      page = search (rules, kept.page);
      page_multiple = size.0;
      page_from = size.1;
      peb_from = grind (arith, nat_tests, peb);
      peb_to = grind (arith, nat_tests, peb);
      peb_pages = grind (arith, nat_tests, peb);
      vid_from = grind (arith, nat_tests, vid);
      vid_multiple = grind (arith, nat_tests, vid);
      data_from = grind (arith, nat_tests, first);
      data_pages = grind (arith, nat_tests, first);
      leb = grind (arith, nat_tests, leb);
      pebs_from = grind (arith, nat_tests, pebs);
      pebs_to = grind (arith, nat_tests, pebs);
    }

geometry_kept : (s : Sizes) → IsGeometry s → AllKept s
geometry_kept s g = record {
  page = search (rules, g.page);
  peb = grind (arith, nat_tests, g.peb_from, g.peb_to, g.peb_pages);
  vid = grind (arith, nat_tests, g.vid_from, g.vid_multiple);
  first = grind (arith, nat_tests, g.data_from, g.data_pages);
  leb = grind (arith, nat_tests, g.leb);
  pebs = grind (arith, nat_tests, g.pebs_from, g.pebs_to);
}

pub kept_limits : (s : Sizes) → (first_broken s ≡ None → IsGeometry s) × (IsGeometry s → first_broken s ≡ None)
kept_limits s = (λ none. is_geometry s (all_kept s none), λ g. none_broken s (geometry_kept s g))
