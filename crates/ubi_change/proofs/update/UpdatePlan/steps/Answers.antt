use Rattle.ubi_change.proofs.Prelude.{base_of, ◌≡◌, ◌<◌, ◌+◌, ◌++◌, ap, sym, ◌∙◌, subst, arith, List, length, AllWithin, plan_groups, Step}
use Rattle.ubi_change.proofs.AllGroups.{all_within_append, groups_count, in_order_all, in_order_more}
use Rattle.ubi_change.proofs.update.UpdatePlan.steps.Goals as goal

pub loop-k-preserved : goal.loop-k-preserved
loop-k-preserved g c =
    let s = c.args.geometry.now in
    let p = c.args.self.now in
    let n = length p.surveyed.states in
    let made = c.in_ok-group.ensures in
    let before = c.loop-k.steps.items in
    let group = c.in_ok-group.group.items in
    let k = c.loop-k.k in
    let more : c.append.new.self.items ≡ before ++ group = c.in_ok-append.ensures.items in
    record {
      known = made.known ∙ c.loop-k.invariant.known;
      narrows = λ bytes held. c.loop-k.invariant.narrows bytes (made.narrows bytes held);
      steps = λ bytes held.
          (let gs = plan_groups s p bytes in
          let count : length gs ≡ length p.layings.items + 2 =
          groups_count s (base_of p) bytes p.pages.items p.holders 0 p.layings.items p.sites.items c.requires.fits.enough in
          let inside : k < length gs = omega (arith, c.loop-k-test.true, c.group_count-k-end.ensures, count) in
          more ∙ ap (λ (xs : List Step). xs ++ group) (c.loop-k.invariant.steps bytes (made.narrows bytes held))
          ∙ in_order_more gs k group inside (made.steps bytes held));
      within = subst (λ (xs : List Step). AllWithin s n xs) (sym more) (all_within_append s n before group c.loop-k.invariant.within made.within);
    }

pub returns-clause-steps : goal.returns-clause-steps
returns-clause-steps g c bytes held =
    let s = c.args.geometry.now in
    let p = c.args.self.now in
    let count = groups_count s (base_of p) bytes p.pages.items p.holders 0 p.layings.items p.sites.items c.requires.fits.enough in
    c.loop-k.invariant.steps bytes held
    ∙ in_order_all (plan_groups s p bytes) c.loop-k.k
    (omega (arith, count, c.loop-k-test.false, c.loop-k.auto.k-end, c.group_count-k-end.ensures))
