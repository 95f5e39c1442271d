use Rattle.ubi_change.proofs.Prelude.{base_of, ◌≡◌, ℕ, ◌+◌, ◌<◌, ◌≤◌, ◌++◌, arith, Some, length, List, sym, ap, ap₂, subst, ◌∙◌, Found, Site, Step, VidHeader, copy_header, layout_header, ◌%◌, leb_size, Target, target_header, slice_get-get_or, AllWithin, copy_steps, FitsIn, copy_on}
use Rattle.ubi_change.proofs.PlacedParts.{all_here}
use Rattle.ubi_change.proofs.StepPages.{copy_all_within}
use Rattle.ubi_change.proofs.update.copy_group.Goals as goal

pub returns-clause-steps : goal.returns-clause-steps
returns-clause-steps c =
    let s = c.args.geometry.now in
    let p = c.args.plan.now in
    let k = c.args.k in
    let t : Site = c.index.result.now in
    let old : Site = c.args.old.now in
    let enough = c.requires.fits.1.enough in
    let inside : k < length p.sites.items = (let i = c.requires.inside in omega (arith, i, enough)) in
    let new = c.as_slice-pages.result.now in
    let scan = base_of p in
    let found = c.basis-basis.ensures in
    let head : c.copy_header.result ≡ layout_header c.args.copy (scan.top_sqnum + 1 + k) new =
    c.copy_header.ensures
    ∙ ap₂ (λ (x : Target) (n : ℕ). copy_header (target_header x) (n + 1 + k) new) c.of_table.ensures
    (c.top_sqnum.ensures ∙ ap (λ (f : Found). f.top_sqnum) found) in (
      t,
      slice_get-get_or p.sites.items k t inside ∙ ap Some (sym c.index.ensures),
      c.in_ok-push_copy.ensures
          ∙ ap₂ (λ (xs : List Step) (f : Found). xs ++ copy_on s f t c.copy_header.result new old old.ec) c.new-steps.ensures.items found
          ∙ ap (λ (h : VidHeader). copy_on s scan t h new old old.ec) head
          ∙ ap (λ (xs : List ℕ). copy_steps s scan xs c.args.copy k t old) c.as_slice-pages.ensures.value,
    )

pub returns-clause-within : goal.returns-clause-within
returns-clause-within c =
    let s = c.args.geometry.now in
    let n = length c.args.plan.now.surveyed.states in
    let f = c.requires.fits.1 in
    let fits = subst (FitsIn n) (sym c.index.ensures) (all_here (FitsIn n) c.args.plan.now.sites.items c.args.k c.index.result.now f.sites (let e = f.enough in let i = c.requires.inside in omega (arith, e, i))) in
    subst (AllWithin s n) (sym (c.in_ok-push_copy.ensures ∙ ap (λ (xs : List Step). xs ++ copy_on s c.basis-basis.result c.index.result.now c.copy_header.result c.as_slice-pages.result.now c.args.old.now c.args.old.now.ec) c.new-steps.ensures.items))
    (copy_all_within s n f.sound c.basis-basis.result c.index.result.now c.copy_header.result c.as_slice-pages.result.now c.args.old.now c.args.old.now.ec fits c.requires.old (let f = c.copy_header.type_inv in omega arith)
    (ap (λ (xs : List ℕ). length xs % s.page) c.as_slice-pages.ensures.value ∙ f.paged)
    (subst (λ (xs : List ℕ). length xs ≤ leb_size s) (sym c.as_slice-pages.ensures.value) f.fit))
