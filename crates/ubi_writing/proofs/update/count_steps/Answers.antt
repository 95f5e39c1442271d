use Rattle.ubi_writing.proofs.Prelude.{base_of, ◌≡◌, ◌<◌, ◌∙◌, List, Step, ap, arith, length, line_of, subst, take, take_all, AreStepCounts, plan_groups, groups_count, length-map}
use Rattle.ubi_writing.proofs.MadeGroups.{counts_more, one_more, total_more}
use Rattle.ubi_writing.proofs.update.count_steps.Goals as goal

pub loop-k-preserved : goal.loop-k-preserved
loop-k-preserved c =
    let s = c.args.geometry.now in
    let p = c.args.plan.now in
    let k = c.loop-k.k in
    let added = c.in_ok-add.ensures in
    record {
      counted = λ bytes laid.
          (let gs = plan_groups s p bytes in
          let count = groups_count s (base_of p) bytes p.pages.items p.holders 0 p.layings.items p.sites.items c.requires.1.enough in
          let inside : k < length gs = (let end = c.group_count-k-end.ensures in omega (arith, count, end, c.loop-k-test.true)) in
          let outline = c.in_ok-group.ensures bytes laid in
          let group : List Step = outline.0 in
          let many : c.len.result ≡ length group = c.len.ensures ∙ c.in_ok-group.group.ok.0 ∙ ap length outline.2 ∙ length-map group line_of in
          let before : AreStepCounts (take k gs) c.loop-k.counted = c.loop-k.invariant.counted bytes laid in
          record {
            counts = counts_more gs k group inside outline.1 _ _ c.len.result before.counts added.counts many;
            total = total_more gs k group inside outline.1 _ _ c.len.result before.total added.total many;
          });
      groups = ap length added.counts ∙ one_more _ _ _ c.loop-k.invariant.groups;
    }

pub returns-clause-counted : goal.returns-clause-counted
returns-clause-counted c bytes laid =
    let s = c.args.geometry.now in
    let p = c.args.plan.now in
    let gs = plan_groups s p bytes in
    let count = groups_count s (base_of p) bytes p.pages.items p.holders 0 p.layings.items p.sites.items c.requires.1.enough in
    subst (λ (xs : List (List Step)). AreStepCounts xs c.loop-k.counted)
    (take_all c.loop-k.k gs (let end = c.group_count-k-end.ensures in omega (arith, count, end, c.loop-k-test.false)))
    (c.loop-k.invariant.counted bytes laid)
