use Rattle.ubi_change.proofs.Prelude.{raised, length, subst, sym, AllWithin, Step, List, IsTarget}
use Rattle.ubi_change.proofs.ChangeSteps.{bytes_fit, bytes_paged, bytes_short, compat_small, sites_fit}
use Rattle.ubi_change.proofs.StepPages.{change_within}
use Rattle.ubi_change.proofs.change.change_steps.Goals as goal

pub steps_on-requires-clause-short : goal.steps_on-requires-clause-short
steps_on-requires-clause-short c =
    bytes_short c.args.geometry.now _ c.args.id c.args.lnum c.args.new.now c.in_ok-target.target c.in_ok-target.ensures.target
    c.page.ensures.limits

pub returns-clause-within : goal.returns-clause-within
returns-clause-within c =
    let s = c.args.geometry.now in
    let p = c.args.prepared.now in
    let n = length p.ground.surveyed.states in
    let new = c.args.new.now in
    let asked : IsTarget s c.table.result.now c.args.id c.args.lnum new c.in_ok-target.target = c.in_ok-target.ensures.target in
    let sites = rw (c.basis-basis.ensures, c.scan.ensures, c.as_slice.ensures.value) at c.in_ok-sites.ensures.sites in
    subst (λ (steps : List Step). AllWithin s n steps) (sym (rw (c.basis-basis.ensures, c.scan.ensures) at c.in_ok-steps_on.ensures))
    (change_within s n c.page.ensures.limits (raised c.args.avoided.now.above p.ground.surveyed.scan) c.in_ok-target.target new c.in_ok-sites.sites
    (sites_fit s p c.requires (raised c.args.avoided.now.above p.ground.surveyed.scan) c.page.ensures.limits c.in_ok-sites.sites sites)
    (compat_small s _ c.args.id c.args.lnum new c.in_ok-target.target asked)
    (bytes_paged s _ c.args.id c.args.lnum new c.in_ok-target.target asked)
    (bytes_fit s _ c.args.id c.args.lnum new c.in_ok-target.target asked))
