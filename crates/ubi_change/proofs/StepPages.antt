-- The steps of a plan work within their eraseblocks: each page lies there, and its bytes are one page.
use Rattle.ubi_change.proofs.Prelude.{◌≡◌, ℕ, zero, suc, ◌+◌, ◌*◌, ◌/◌, ◌%◌, ◌<◌, ◌≤◌, Bool, true, false, cond, List, [], ◌∷◌, ◌++◌, length, map, drop, refl, subst, arith, length-drop, Option, enumerate_from, first_chunks, div-add-mod, length-take-le, same_Some, ec_bytes, IsGeometry, Sizes, leb_size, EcHeader, VidHeader, Found, length-filled, AllWithin, FitsBlock, next_ec, program_header, program_text, renew, target, pages_of, steps_on, FitsIn, copy_on, mount_on, ready_on, release_on, stays_on, Site, Step, Target, lay_on}
use Rattle.ubi_change.specs.declared.sites.Sites.{Sites as OnSites}
use Rattle.ubi_change.specs.declared.sites.Sites.TheVariants as on
use Rattle.ubi_change.specs.declared.step.Step.TheVariants as step
use Rattle.ubi_change.proofs.CopyFits.{length-vid_page, page_inside}
use Rattle.ubi_change.proofs.PagePlaces.{data_pages, vid_page_within}
use Rattle.ubi_change.proofs.Runs.{if_renewed}

module _ (s : Sizes) (n : ℕ) where
  -- each of these steps works within one of n eraseblocks
  abbrev pub EachWithin : List Step → Type 0
  EachWithin [] = Unit {0}
  EachWithin (x ∷ xs) = ((target x < n) × FitsBlock s x) × EachWithin xs

  pub within_append : (xs ys : List Step) → EachWithin xs → EachWithin ys → EachWithin (xs ++ ys)
  within_append [] ys a b = b
  within_append (x ∷ xs) ys a b = (a.0, within_append xs ys a.1 b)

  pub all_within : (steps : List Step) → EachWithin steps → AllWithin s n steps
  all_within [] a k next e = absurd (cc)
  all_within (x ∷ xs) a zero next e = subst (λ (y : Step). (target y < n) × FitsBlock s y) (same_Some x next e) a.0
  all_within (x ∷ xs) a (suc k) next e = all_within xs a.1 k next e

  module _ (g : IsGeometry s) where
    renew_within : (p : ℕ) (e : EcHeader) → p < n → EachWithin (renew s p e)
    renew_within p e inside =
        let room : 0 * s.page + s.page ≤ s.peb_size = omega (arith, g.peb_from) in
        let size : length (ec_bytes s e) ≡ 64 = refl in (
          (inside, tt),
          (
            (inside, (page_inside s g 0 room, length-filled s.page (ec_bytes s e) (omega (arith, g.page_from, size)))),
            tt,
          ),
        )

    header_within : (p : ℕ) (ec : List ℕ) (h : VidHeader) → p < n → length ec ≡ 64 → h.compat < 256
        → EachWithin (program_header s p ec h ∷ [])
    header_within p ec h inside size small =
        let room : s.vid_offset / s.page * s.page + s.page ≤ s.peb_size =
        (let k = vid_page_within s g in let l = g.leb in omega arith) in
        ((inside, (page_inside s g (s.vid_offset / s.page) room, length-vid_page s g ec size h small)), tt)

    -- the pages of a text from a page on
    pages_within : (p : ℕ) → p < n → (m page : ℕ) (text : List ℕ) → m * s.page ≤ length text
        → page * s.page + m * s.page ≤ s.peb_size
        → EachWithin (map (λ e. step.Program p e.0 e.1) (enumerate_from page (first_chunks s.page m text)))
    pages_within p inside zero page text enough room = tt
    pages_within p inside (suc m) page text enough room = (
      (
        inside,
        (page_inside s g page (omega arith), length-take-le s.page text (omega arith)),
      ),
      pages_within p inside m (page + 1) (drop s.page text) (let k = length-drop s.page text in omega arith) (omega arith),
    )

    text_within : (p : ℕ) (new : List ℕ) → p < n → length new % s.page ≡ 0 → length new ≤ leb_size s
        → EachWithin (program_text s p new)
    text_within p new inside paged short =
        let split = div-add-mod (length new) s.page in
        let all : pages_of s new * s.page ≡ length new = omega (arith, paged, split) in
        let d = data_pages s g in
        let l = g.leb in
        pages_within p inside (pages_of s new) (s.data_offset / s.page) new (omega arith) (omega arith)

    module _ (scan : Found) where
      mount_within : (t : Site) (h : VidHeader) → FitsIn n t → h.compat < 256 → EachWithin (mount_on s scan t h)
      mount_within t h fits small = by_kind t.is_clean
        where
          by_kind : (b : Bool)
              → EachWithin (cond b [] (renew s t.pnum (next_ec scan t.ec))
              ++ program_header s t.pnum (cond b t.ec_area (ec_bytes s (next_ec scan t.ec))) h ∷ [])
          by_kind true = header_within t.pnum t.ec_area h fits.inside fits.area small
          by_kind false = within_append (renew s t.pnum (next_ec scan t.ec))
              (program_header s t.pnum (ec_bytes s (next_ec scan t.ec)) h ∷ [])
              (renew_within t.pnum (next_ec scan t.ec) fits.inside)
              (header_within t.pnum (ec_bytes s (next_ec scan t.ec)) h fits.inside refl small)

      release_within : (t : Site) (now : Option EcHeader) → FitsIn n t → EachWithin (release_on s scan t now)
      release_within t now fits = if_renewed EachWithin (stays_on scan t now) tt (renew_within t.pnum (next_ec scan now) fits.inside)

      copy_within : (b : Site) (h : VidHeader) (new : List ℕ) (old : Site) (now : Option EcHeader) → FitsIn n b → FitsIn n old
          → h.compat < 256 → length new % s.page ≡ 0 → length new ≤ leb_size s → EachWithin (copy_on s scan b h new old now)
      copy_within b h new old now fits gone small paged short = within_append (mount_on s scan b h ++ program_text s b.pnum new) _
          (within_append (mount_on s scan b h) _ (mount_within b h fits small) (text_within b.pnum new fits.inside paged short))
          (release_within old now gone)

      -- contents that are written, and a copy
      pub lay_all_within : (b : Site) (h : VidHeader) (new : List ℕ) → FitsIn n b → h.compat < 256 → length new % s.page ≡ 0
          → length new ≤ leb_size s → AllWithin s n (lay_on s scan b h new)
      lay_all_within b h new fits small paged short =
          all_within _ (within_append (mount_on s scan b h) _ (mount_within b h fits small) (text_within b.pnum new fits.inside paged short))

      pub copy_all_within : (b : Site) (h : VidHeader) (new : List ℕ) (old : Site) (now : Option EcHeader) → FitsIn n b → FitsIn n old
          → h.compat < 256 → length new % s.page ≡ 0 → length new ≤ leb_size s → AllWithin s n (copy_on s scan b h new old now)
      copy_all_within b h new old now fits gone small paged short = all_within _ (copy_within b h new old now fits gone small paged short)

      -- the steps of a change
      abbrev pub SitesFit : OnSites → Type 0
      SitesFit (on.Mapped copy old) = FitsIn n copy × FitsIn n old
      SitesFit (on.Unmapped first copy) = FitsIn n first × FitsIn n copy

      pub change_within : (t : Target) (new : List ℕ) (sites : OnSites) → SitesFit sites → t.compat < 256
          → length new % s.page ≡ 0 → length new ≤ leb_size s → AllWithin s n (steps_on s scan t new sites)
      change_within t new (on.Mapped copy old) fit small paged short =
          all_within _ (copy_within copy _ new old old.ec fit.0 fit.1 small paged short)
      change_within t new (on.Unmapped first copy) fit small paged short =
          all_within _ (within_append (mount_on s scan first _) _ (mount_within first _ fit.0 (omega arith))
          (copy_within copy _ new first (ready_on scan first) fit.1 fit.0 small paged short))
