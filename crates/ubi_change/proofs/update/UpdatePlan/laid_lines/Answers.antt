use Rattle.ubi_change.proofs.Prelude.{Laying, List, Site, Step, ap, ap₂, get_or, laid, subst, sym, ℕ, ◌++◌, ◌/◌, ◌∙◌, ◌≡◌, HavePageNumbers, lay_lines, IsOutline}
use Rattle.ubi_change.proofs.Outlined.{laid_numbered, laid_outline}
use Rattle.ubi_change.proofs.update.UpdatePlan.laid_lines.Goals as goal

pub returns : goal.returns
returns c bytes laid =
    let s = c.args.geometry.now in
    let p = c.args.self.now in
    let k = c.args.k in
    let n = c.requires.fits.0 in
    let fits = c.requires.fits.1 in
    let d : Laying = c.index.result.now in
    let t : Site = c.index-2.result.now in
    let pages : (get_or p.layings.items k d).pages ≡ d.pages = ap (λ (l : Laying). l.pages) (sym c.index.ensures) in
    let numbers = subst (HavePageNumbers (s.data_offset / s.page)) pages (laid_numbered s n p fits k bytes d t c.requires.inside laid) in
    subst (IsOutline s bytes p k)
    (ap₂ (λ (x : Site) (m : ℕ). lay_lines s x m) (sym c.index-2.ensures) pages
    ∙ sym (c.in_ok-push_lay.ensures numbers ∙ ap (λ (xs : List Step). xs ++ lay_lines s t d.pages) c.new-steps.ensures.items))
    (laid_outline s n p fits k bytes d t c.requires.inside laid)
