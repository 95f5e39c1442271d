-- The groups of steps of a plan of edits, one after the other, are the plan of their commit.
use Rattle.ubi_change.proofs.Prelude.{◌≡◌, ℕ, suc, ◌+◌, ◌≤◌, List, [], ◌∷◌, ◌++◌, length, map, refl, ap, ap₂, sym, ◌∙◌, arith, append_assoc, append-nil, Some, slice_get, IsGeometry, Sizes, VidHeader, carriers, AttachValue, Meant, records_of, Holders, Site, Step, mount, program_text, copy_plan, holder, layout_header, table_pages, taken, trimmed, ec_at, site_at, lay_all, table_plan, lay, VolKind, laid_text, piece_text, Piece, copy_steps, groups_from, header_at, in_order, lay_steps, Laying}
use Rattle.ubi_media.specs.declared.vid.VolKind.TheVariants as kind
use Rattle.ubi_change.proofs.PartLayings.{laid_as}
use Rattle.ubi_change.proofs.Sited.{copy-is}
use Rattle.ubi_change.proofs.TrimmedFilled.{trimmed_filled}

module _ (s : Sizes) (bs : List (List ℕ)) (a : AttachValue) (same : a.scan.carriers ≡ carriers s bs) (g : IsGeometry s) (contents : List ℕ) where
  abbrev site : ℕ → Site
  site p = site_at s bs a.states p

  trimmed_laid : (k : VolKind) (h : VidHeader) (text : List ℕ) → trimmed s (laid_text k s h text) ≡ trimmed s text
  trimmed_laid kind.Static h text = refl
  trimmed_laid kind.Dynamic h text = trimmed_filled s g _ text

  lay_is : (k : ℕ) (l : Laying) → lay_steps s a.scan contents k l.piece (site (taken s bs a k)) ≡ lay s bs a k (laid_as s contents l)
  lay_is k l =
      let q : Piece = l.piece in
      let p = taken s bs a k in
      ap (λ (xs : List ℕ). mount s bs a p (header_at s a.scan contents k q) ++ program_text s p xs)
      (sym (trimmed_laid q.header.kind q.header (piece_text s q.origin q.len contents)))

  module _ (pages : List ℕ) (old : Holders) (first : old.first ≡ site (holder s bs a 0)) (second : old.second ≡ site (holder s bs a 1))
      (n : Meant) (new : pages ≡ table_pages s (records_of n)) where
    copy_at : (c k : ℕ) (t o : Site) → t ≡ site (taken s bs a k) → o ≡ site (holder s bs a c)
        → copy_steps s a.scan pages c k t o ≡ copy_plan s bs a (table_pages s (records_of n)) c k (a.scan.top_sqnum + 1 + k)
    copy_at c k t o e f =
        ap₂ (copy_steps s a.scan pages c k) e f
        ∙ copy-is s bs a same (taken s bs a k) (layout_header c (a.scan.top_sqnum + 1 + k) pages) pages (holder s bs a c) (ec_at s bs (holder s bs a c))
        ∙ ap (λ (xs : List ℕ). copy_plan s bs a xs c k (a.scan.top_sqnum + 1 + k)) new

    -- the eraseblocks are those that are taken, from the k-th on
    abbrev AreFrom : ℕ → List Site → Type 0
    AreFrom k ts = (i : ℕ) (t : Site) → slice_get ts i ≡ Some t → t ≡ site (taken s bs a (k + i))

    pub groups_are : (k : ℕ) (ls : List Laying) (ts : List Site) → length ls + 2 ≤ length ts → AreFrom k ts
        → in_order (groups_from s a.scan contents pages old k ls ts)
        ≡ lay_all s bs a k (map (laid_as s contents) ls) ++ table_plan s bs a (k + length ls) n
    groups_are k [] [] l are = absurd (omega arith)
    groups_are k [] (t ∷ []) l are = absurd (omega arith)
    groups_are k [] (t ∷ u ∷ ts) l are =
        let none : k + 0 ≡ k = omega arith in
        ap₂ (λ (xs ys : List Step). xs ++ ys)
        (copy_at 0 k t old.first (are 0 t refl ∙ ap (λ i. site (taken s bs a i)) none) first)
        (append-nil (copy_steps s a.scan pages 1 (k + 1) u old.second) ∙ copy_at 1 (k + 1) u old.second (are 1 u refl) second)
        ∙ ap (λ i. table_plan s bs a i n) (sym none)
    groups_are k (x ∷ ls) [] l are = absurd (omega arith)
    groups_are k (x ∷ ls) (t ∷ ts) l are =
        let none : k + 0 ≡ k = omega arith in
        let next : k + 1 + length ls ≡ k + suc (length ls) = omega arith in
        ap₂ (λ (xs ys : List Step). xs ++ ys)
        (ap (lay_steps s a.scan contents k x.piece) (are 0 t refl ∙ ap (λ i. site (taken s bs a i)) none) ∙ lay_is k x)
        (groups_are (k + 1) ls ts (omega arith) (λ i y e. are (suc i) y e ∙ ap (λ i. site (taken s bs a i)) (let m : k + suc i ≡ k + 1 + i = omega arith in m)))
        ∙ sym (append_assoc (lay s bs a k (laid_as s contents x)) (lay_all s bs a (k + 1) (map (laid_as s contents) ls)) (table_plan s bs a (k + 1 + length ls) n))
        ∙ ap (λ i. lay_all s bs a k (map (laid_as s contents) (x ∷ ls)) ++ table_plan s bs a i n) next
