use Rattle.ubi_change.proofs.Prelude.{base_of, ◌≡◌, ◌+◌, arith, Some, get_or, slice_get, sym, ap, ◌∙◌, Site, length, get_or_from_slice_get, copy_steps, plan_groups}
use Rattle.ubi_change.proofs.GroupPlaces.{first_at, second_at}
use Rattle.ubi_change.proofs.update.UpdatePlan.group.Goals as goal

pub returns-in_ok-copy_group-clause-steps : goal.returns-in_ok-copy_group-clause-steps
returns-in_ok-copy_group-clause-steps g c bytes held =
    let s = c.args.geometry.now in
    let p = c.args.self.now in
    let ls = p.layings.items in
    let ts = p.sites.items in
    let made = c.in_ok-copy_group.ensures.steps in
    let t : Site = made.0 in
    let here : c.args.k ≡ length ls = omega (arith, c.if-k-written-2.true, c.len-written.ensures) in
    let site : get_or ts (length ls) t ≡ t = ap (λ k. get_or ts k t) (sym here) ∙ get_or_from_slice_get ts c.args.k t t made.1 in
    ap (slice_get (plan_groups s p bytes)) here
    ∙ first_at s (base_of p) bytes p.pages.items p.holders ls ts t c.requires.fits.enough
    ∙ ap (λ (x : Site). Some (copy_steps s (base_of p) p.pages.items 0 (length ls) x p.holders.first)) site
    ∙ ap (λ k. Some (copy_steps s (base_of p) p.pages.items 0 k t p.holders.first)) (sym here)
    ∙ ap Some (sym made.2)

pub returns-in_ok-copy_group-2-clause-steps : goal.returns-in_ok-copy_group-2-clause-steps
returns-in_ok-copy_group-2-clause-steps g c bytes held =
    let s = c.args.geometry.now in
    let p = c.args.self.now in
    let ls = p.layings.items in
    let ts = p.sites.items in
    let made = c.in_ok-copy_group-2.ensures.steps in
    let t : Site = made.0 in
    let here : c.args.k ≡ length ls + 1 = omega (arith, c.if-k-written.false, c.if-k-written-2.false, c.len-written.ensures, c.requires.inside) in
    second_at s (base_of p) bytes p.pages.items p.holders ls ts c.args.k t here c.requires.fits.enough
    ∙ ap (λ (x : Site). Some (copy_steps s (base_of p) p.pages.items 1 c.args.k x p.holders.second)) (get_or_from_slice_get ts c.args.k t t made.1)
    ∙ ap Some (sym made.2)
