use Rattle.ubi_change.proofs.Prelude.{base_of, Found, List, Site, Step, ap, ap₂, get_or, inl, inr, length, pages_of, subst, sym, ℕ, ◌++◌, ◌/◌, ◌∙◌, ◌≡◌, HavePageNumbers, lay_lines, release_lines, IsOutline}
use Rattle.ubi_change.proofs.Outlined.{first_or_second, first_outline, second_outline, table_numbered}
use Rattle.ubi_change.proofs.update.UpdatePlan.copy_lines.Goals as goal

pub returns : goal.returns
returns c bytes =
    let s = c.args.geometry.now in
    let p = c.args.self.now in
    let k = c.args.k in
    let n = c.requires.fits.0 in
    let fits = c.requires.fits.1 in
    let t : Site = c.index.result.now in
    let old : Site = c.given_up.result.now in
    let count = c.len.result / c.page.result in
    let pages : count ≡ pages_of s p.pages.items = ap₂ (λ (a b : ℕ). a / b) (c.len.ensures ∙ p.pages.ok.0) c.page.ensures.value in
    let numbers = subst (HavePageNumbers (s.data_offset / s.page)) (sym pages) (table_numbered s n p fits k bytes) in
    let found = c.basis.ensures in
    let are : (x : Site) → old ≡ x
    → lay_lines s (get_or p.sites.items k t) (pages_of s p.pages.items) ++ release_lines (base_of p) x ≡ c.push_released.new.steps.items =
    (λ x is.
    ap₂ (λ (a : Site) (m : ℕ). lay_lines s a m ++ release_lines (base_of p) x) (sym c.index.ensures) (sym pages)
    ∙ ap₂ (λ (f : Found) (a : Site). lay_lines s t count ++ release_lines f a) (sym found) (sym is)
    ∙ ap (λ (xs : List Step). xs ++ release_lines c.basis.result old)
    (sym (c.in_ok-push_lay.ensures numbers ∙ ap (λ (xs : List Step). xs ++ lay_lines s t count) c.new-steps.ensures.items))
    ∙ sym c.in_ok-push_released.ensures) in
    elim (first_or_second k (length p.layings.items) c.requires.behind c.requires.inside) [
      | inl here ↦ subst (IsOutline s bytes p k) (are p.holders.first (c.given_up.ensures.first here)) (first_outline s n p fits k bytes t here)
      | inr here ↦ subst (IsOutline s bytes p k) (are p.holders.second (c.given_up.ensures.second here)) (second_outline s n p fits k bytes t here)
    ]
