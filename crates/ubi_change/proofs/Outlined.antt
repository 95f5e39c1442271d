-- The steps of a plan of edits without the bytes that they program.
use Rattle.ubi_change.proofs.Prelude.{base_of, Bool, FitsUpdate, Found, IsGeometry, Laying, LiesIn, List, Piece, Site, Sizes, Some, Step, UpdatePlan, VidHeader, [], ap, ap₂, arith, cond, copy_on, copy_steps, div-mul-add, div-mul-le_self, drop, ec_bytes, enumerate_from, false, first_chunks, fits, get_or, header_at, lay_on, lay_steps, layout_header, leb_size, length, map, map-append, mul-le, next_ec, pages_needed, pages_of, piece_bytes, plan_groups, program_header, program_text, refl, release_on, renew, slice_get, stays_on, subst, suc, sym, trimmed, true, whole_text, zero, ℕ, ◌*◌, ◌++◌, ◌+◌, ◌/◌, ◌<◌, ◌∙◌, ◌∷◌, ◌≡◌, ◌≤◌, ◌⊎◌, line_of, IsLaidFrom, IsOutline, HavePageNumbers, lay_lines, page_lines, release_lines, renew_lines}
use Rattle.ubi_change.specs.declared.step.Step.TheVariants as step
use Rattle.ubi_change.proofs.GroupPlaces.{first_at, lay_at, second_at}
use Rattle.ubi_change.proofs.PlanLaid.{AllCounted, IsCounted, all_counted, piece_short}
use Rattle.ubi_change.proofs.PlacedParts.{all_here}
use Rattle.ubi_change.proofs.Trimmed.{length-trimmed, trimmed_room}

-- a group behind those of the volumes is the first of a copy or the second
pub first_or_second : (k n : ℕ) → n ≤ k → k < n + 2 → (k ≡ n) ⊎ (k ≡ n + 1)
first_or_second k n a b = grind arith

-- the programs of the pages of a text
text_lined : (p first size count : ℕ) (text : List ℕ)
    → map line_of (map (λ e. step.Program p e.0 e.1) (enumerate_from first (first_chunks size count text))) ≡ page_lines p first count
text_lined p first size zero text = refl
text_lined p first size (suc count) text =
    ap (λ (xs : List Step). step.Program p first [] ∷ xs) (text_lined p (first + 1) size count (drop size text))

module _ (s : Sizes) (scan : Found) where
  -- contents that are written to an eraseblock
  pub lay_lined : (t : Site) (h : VidHeader) (new : List ℕ) → map line_of (lay_on s scan t h new) ≡ lay_lines s t (pages_of s new)
  lay_lined t h new = by t.is_clean
    where
      text : map line_of (program_text s t.pnum new) ≡ page_lines t.pnum (s.data_offset / s.page) (pages_of s new)
      text = text_lined t.pnum (s.data_offset / s.page) s.page (pages_of s new) new

      head : Step
      head = step.Program t.pnum (s.vid_offset / s.page) []

      by : (b : Bool)
          → map line_of ((cond b [] (renew s t.pnum (next_ec scan t.ec))
          ++ program_header s t.pnum (cond b t.ec_area (ec_bytes s (next_ec scan t.ec))) h ∷ []) ++ program_text s t.pnum new)
          ≡ cond b [] (renew_lines t.pnum) ++ head ∷ page_lines t.pnum (s.data_offset / s.page) (pages_of s new)
      by true = ap (λ (xs : List Step). head ∷ xs) text
      by false = ap (λ (xs : List Step). renew_lines t.pnum ++ head ∷ xs) text

  released : (old : Site) → map line_of (release_on s scan old old.ec) ≡ release_lines scan old
  released old = by (stays_on scan old old.ec)
    where
      by : (b : Bool) → map line_of (cond b [] (renew s old.pnum (next_ec scan old.ec))) ≡ cond b [] (renew_lines old.pnum)
      by true = refl
      by false = refl

  -- and a copy of the table
  pub copy_lined : (t : Site) (h : VidHeader) (new : List ℕ) (old : Site)
      → map line_of (copy_on s scan t h new old old.ec) ≡ lay_lines s t (pages_of s new) ++ release_lines scan old
  copy_lined t h new old =
      map-append line_of (lay_on s scan t h new) (release_on s scan old old.ec)
      ∙ ap₂ (λ (xs ys : List Step). xs ++ ys) (lay_lined t h new) (released old)

-- so many pages, from where data begin, have numbers of 32 bits
module _ (s : Sizes) (g : IsGeometry s) where
  pub are_numbered : (count : ℕ) → count * s.page ≤ leb_size s → HavePageNumbers (s.data_offset / s.page) count
  are_numbered count fits =
      let a = div-mul-le_self s.data_offset s.page in
      let b = mul-le (s.data_offset / s.page) 1 (s.data_offset / s.page) s.page (omega arith) (let p = g.page_from in omega (arith, p)) in
      let c = mul-le count 1 count s.page (omega arith) (let p = g.page_from in omega (arith, p)) in
      let d = g.peb_to in
      let e = g.leb in
      omega (arith, a, b, c, d, e, fits)

  pub pages_in : (new : List ℕ) → length new ≤ leb_size s → pages_of s new * s.page ≤ leb_size s
  pages_in new fits = let a = div-mul-le_self (length new) s.page in omega (arith, a, fits)

module _ (s : Sizes) (size : ℕ) (p : UpdatePlan) (fits : FitsUpdate s size p) (k : ℕ) (contents : List ℕ) where
  abbrev ls : List Laying
  ls = p.layings.items

  abbrev ts : List Site
  ts = p.sites.items

  abbrev pub OutlineIs : List Step → Type 0
  OutlineIs = IsOutline s contents p k

  module _ (d : Laying) (t : Site) (inside : k < length ls) (laid : IsLaidFrom s contents p) where
    abbrev q : Piece
    q = (get_or ls k d).piece

    counted : IsCounted s contents (get_or ls k d)
    counted = all_here (IsCounted s contents) ls k d (subst (AllCounted s contents) (sym laid) (all_counted s contents p.parts.items)) inside

    few : length (piece_bytes s contents q) ≤ leb_size s
    few =
        let e = piece_short s q.origin q.len contents in
        let f = (all_here (λ (l : Laying). LiesIn s size l.piece) ls k d fits.lie inside).fits in
        omega (arith, e, f)

    pages : pages_of s (trimmed s (piece_bytes s contents q)) ≡ (get_or ls k d).pages
    pages =
        let n = pages_needed s (whole_text s (piece_bytes s contents q)) in
        let sum : n * s.page ≡ n * s.page + 0 = omega arith in
        ap (λ m. m / s.page) (length-trimmed s fits.sound (piece_bytes s contents q) few ∙ sum)
        ∙ div-mul-add n s.page 0 (let f = fits.sound.page_from in omega (arith, f))
        ∙ sym counted.pages

    pub laid_numbered : HavePageNumbers (s.data_offset / s.page) (get_or ls k d).pages
    laid_numbered =
        subst (HavePageNumbers (s.data_offset / s.page)) pages
        (are_numbered s fits.sound (pages_of s (trimmed s (piece_bytes s contents q)))
        (pages_in s fits.sound (trimmed s (piece_bytes s contents q))
        (let e = trimmed_room s fits.sound (piece_bytes s contents q) few in omega (arith, e))))

    pub laid_outline : OutlineIs (lay_lines s (get_or ts k t) (get_or ls k d).pages)
    laid_outline =
        let enough = fits.enough in
        let group = lay_steps s (base_of p) contents (0 + k) q (get_or ts k t) in (
          group,
          lay_at s (base_of p) contents p.pages.items p.holders 0 ls ts k d t inside (omega (arith, enough)),
          ap (lay_lines s (get_or ts k t)) (sym pages)
              ∙ sym (lay_lined s (base_of p) (get_or ts k t) (header_at s (base_of p) contents (0 + k) q) (trimmed s (piece_bytes s contents q))),
        )

  pub table_numbered : HavePageNumbers (s.data_offset / s.page) (pages_of s p.pages.items)
  table_numbered = are_numbered s fits.sound (pages_of s p.pages.items) (pages_in s fits.sound p.pages.items fits.fit)

  abbrev copy_lines : Site → Site → List Step
  copy_lines t old = lay_lines s t (pages_of s p.pages.items) ++ release_lines (base_of p) old

  pub first_outline : (t : Site) → k ≡ length ls → OutlineIs (copy_lines (get_or ts k t) p.holders.first)
  first_outline t here = (
    copy_steps s (base_of p) p.pages.items 0 k (get_or ts k t) p.holders.first,
    ap (slice_get (plan_groups s p contents)) here ∙ first_at s (base_of p) contents p.pages.items p.holders ls ts t fits.enough
        ∙ ap (λ n. Some (copy_steps s (base_of p) p.pages.items 0 n (get_or ts n t) p.holders.first)) (sym here),
    sym (copy_lined s (base_of p) (get_or ts k t) (layout_header 0 ((base_of p).top_sqnum + 1 + k) p.pages.items) p.pages.items p.holders.first),
  )

  pub second_outline : (t : Site) → k ≡ length ls + 1 → OutlineIs (copy_lines (get_or ts k t) p.holders.second)
  second_outline t here = (
    copy_steps s (base_of p) p.pages.items 1 k (get_or ts k t) p.holders.second,
    second_at s (base_of p) contents p.pages.items p.holders ls ts k t here fits.enough,
    sym (copy_lined s (base_of p) (get_or ts k t) (layout_header 1 ((base_of p).top_sqnum + 1 + k) p.pages.items) p.pages.items p.holders.second),
  )
