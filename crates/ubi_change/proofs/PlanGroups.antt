-- The steps of a plan of edits work within eraseblocks, and on none that is listed.
use Rattle.ubi_change.proofs.Prelude.{base_of, AllBeside, AllByRecursion, AllWithin, Bool, FitsIn, FitsUpdate, Found, IsBeside, Laying, LiesIn, List, Site, Sizes, Step, UpdatePlan, [], arith, copy_steps, false, groups_from, header_at, in_order, is_listed, laid, lay_steps, layout_header, leb_size, length, piece_bytes, plan_groups, subst, suc, sym, trimmed, ℕ, ◌+◌, ◌<◌, ◌∷◌, ◌≡◌, ◌≤◌, All, IsLaidFrom}
use Rattle.ubi_change.proofs.AllGroups.{all_beside_append, all_within_append}
use Rattle.ubi_change.proofs.PlanLaid.{AllCounted, IsCounted, all_counted, checked_compat, piece_short}
use Rattle.ubi_change.proofs.StepPages.{copy_all_within, lay_all_within}
use Rattle.ubi_change.proofs.StepsOn.{copy_each, each_on, lay_each}
use Rattle.ubi_change.proofs.Trimmed.{trimmed_paged, trimmed_room}

none_within : (s : Sizes) (n : ℕ) → AllWithin s n []
none_within s n k next e = absurd (cc)

none_beside : (marks : List Bool) → AllBeside marks []
none_beside marks k next e = absurd (cc)

module _ (s : Sizes) (size : ℕ) (p : UpdatePlan) (fits : FitsUpdate s size p) (contents : List ℕ) where
  abbrev n : ℕ
  n = length p.surveyed.states

  abbrev scan : Found
  scan = base_of p

  abbrev pages : List ℕ
  pages = p.pages.items

  abbrev Within : List Step → Type 0
  Within = AllWithin s n

  copy_within : (c k : ℕ) (t old : Site) → FitsIn n t → FitsIn n old → Within (copy_steps s scan pages c k t old)
  copy_within c k t old a b =
      copy_all_within s n fits.sound scan t (layout_header c (scan.top_sqnum + 1 + k) pages) pages old old.ec a b (omega arith) fits.paged fits.fit

  laid_within : (k : ℕ) (l : Laying) (t : Site) → FitsIn n t → LiesIn s size l.piece → IsCounted s contents l
      → Within (lay_steps s scan contents k l.piece t)
  laid_within k l t a lies is =
      let q = l.piece in
      let few : length (piece_bytes s contents q) ≤ leb_size s =
      (let e = piece_short s q.origin q.len contents in let f = lies.fits in omega (arith, e, f)) in
      let small : (header_at s scan contents k q).compat < 256 =
      (let e = checked_compat q.header.kind s q.header q.origin q.len contents in let f = is.compat in omega (arith, e, f)) in
      lay_all_within s n fits.sound scan t (header_at s scan contents k q) (trimmed s (piece_bytes s contents q)) a small
      (trimmed_paged s fits.sound (piece_bytes s contents q) few)
      (let e = trimmed_room s fits.sound (piece_bytes s contents q) few in omega (arith, e))

  within_from : (k : ℕ) (ls : List Laying) (ts : List Site) → AllByRecursion (FitsIn n) ts → AllByRecursion (λ l. LiesIn s size l.piece) ls
      → AllCounted s contents ls → Within (in_order (groups_from s scan contents pages p.holders k ls ts))
  within_from k [] [] all lie is = none_within s n
  within_from k [] (t ∷ []) all lie is = none_within s n
  within_from k [] (t ∷ u ∷ ts) all lie is =
      all_within_append s n (copy_steps s scan pages 0 k t p.holders.first) _ (copy_within 0 k t p.holders.first all.0 fits.holders.first)
      (all_within_append s n (copy_steps s scan pages 1 (k + 1) u p.holders.second) [] (copy_within 1 (k + 1) u p.holders.second all.1.0 fits.holders.second)
      (none_within s n))
  within_from k (l ∷ ls) [] all lie is = none_within s n
  within_from k (l ∷ ls) (t ∷ ts) all lie is =
      all_within_append s n (lay_steps s scan contents k l.piece t) _ (laid_within k l t all.0 lie.0 is.0)
      (within_from (k + 1) ls ts all.1 lie.1 is.1)

  pub groups_within : IsLaidFrom s contents p → Within (in_order (plan_groups s p contents))
  groups_within laid =
      within_from 0 p.layings.items p.sites.items fits.sites fits.lie
      (subst (AllCounted s contents) (sym laid) (all_counted s contents p.parts.items))

-- none of the steps works on an eraseblock that is listed
module _ (s : Sizes) (p : UpdatePlan) (contents : List ℕ) (marks : List Bool) (apart : IsBeside marks p) where
  abbrev IsFree : ℕ → Type 0
  IsFree q = is_listed marks q ≡ false

  copy_beside : (c k : ℕ) (t old : Site) → IsFree t.pnum → IsFree old.pnum
      → AllBeside marks (copy_steps s (base_of p) p.pages.items c k t old)
  copy_beside c k t old a b =
      each_on IsFree _ (copy_each IsFree s (base_of p) t (layout_header c ((base_of p).top_sqnum + 1 + k) p.pages.items) p.pages.items old old.ec a b)

  laid_beside : (k : ℕ) (l : Laying) (t : Site) → IsFree t.pnum → AllBeside marks (lay_steps s (base_of p) contents k l.piece t)
  laid_beside k l t a =
      each_on IsFree _ (lay_each IsFree s (base_of p) t (header_at s (base_of p) contents k l.piece) (trimmed s (piece_bytes s contents l.piece)) a)

  abbrev AllFree : List Site → Type 0
  AllFree ts = All (λ t. IsFree t.pnum) ts

  beside_from : (k : ℕ) (ls : List Laying) (ts : List Site) → AllFree ts
      → AllBeside marks (in_order (groups_from s (base_of p) contents p.pages.items p.holders k ls ts))
  beside_from k [] [] all = none_beside marks
  beside_from k [] (t ∷ []) all = none_beside marks
  beside_from k [] (t ∷ u ∷ ts) all =
      all_beside_append marks (copy_steps s (base_of p) p.pages.items 0 k t p.holders.first) _
      (copy_beside 0 k t p.holders.first (all 0 t (omega arith)) apart.first)
      (all_beside_append marks (copy_steps s (base_of p) p.pages.items 1 (k + 1) u p.holders.second) []
      (copy_beside 1 (k + 1) u p.holders.second (all 1 u (omega arith)) apart.second) (none_beside marks))
  beside_from k (l ∷ ls) [] all = none_beside marks
  beside_from k (l ∷ ls) (t ∷ ts) all =
      all_beside_append marks (lay_steps s (base_of p) contents k l.piece t) _ (laid_beside k l t (all 0 t (omega arith)))
      (beside_from (k + 1) ls ts (λ j u l. all (suc j) u (omega (arith, l))))

  pub groups_beside : AllBeside marks (in_order (plan_groups s p contents))
  groups_beside = beside_from 0 p.layings.items p.sites.items apart.sites
