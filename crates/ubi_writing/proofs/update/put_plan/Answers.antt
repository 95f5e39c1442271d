use Rattle.ubi_writing.proofs.Prelude.{base_of, ◌<◌, ◌∙◌, ◌++◌, List, Step, ap, append-nil, arith, flat_map, in_order, length, step_line, sym, take_all, plan_groups, groups_count}
use Rattle.ubi_writing.proofs.MadeGroups.{lines_more}
use Rattle.ubi_writing.proofs.update.put_plan.Goals as goal

pub loop-k-init : goal.loop-k-init
loop-k-init c bytes laid = sym (append-nil c.args.text.now.items)

pub loop-k-preserved : goal.loop-k-preserved
loop-k-preserved c bytes laid =
    let s = c.args.geometry.now in
    let p = c.args.plan.now in
    let k = c.loop-k.k in
    let gs = plan_groups s p bytes in
    let count = groups_count s (base_of p) bytes p.pages.items p.holders 0 p.layings.items p.sites.items c.requires.1.enough in
    let inside : k < length gs = (let end = c.group_count-k-end.ensures in omega (arith, count, end, c.loop-k-test.true)) in
    let outline = c.in_ok-group.ensures bytes laid in
    lines_more gs k outline.0 inside outline.1 c.args.text.now.items c.loop-k.text.items _ c.as_slice.result.now (c.loop-k.invariant bytes laid)
    c.in_ok-put_steps.ensures (c.as_slice.ensures.value ∙ outline.2)

pub returns : goal.returns
returns c bytes laid =
    let s = c.args.geometry.now in
    let p = c.args.plan.now in
    let gs = plan_groups s p bytes in
    let count = groups_count s (base_of p) bytes p.pages.items p.holders 0 p.layings.items p.sites.items c.requires.1.enough in
    c.loop-k.invariant bytes laid
    ∙ ap (λ (xs : List (List Step)). c.args.text.now.items ++ flat_map step_line (in_order xs))
    (take_all c.loop-k.k gs (let end = c.group_count-k-end.ensures in omega (arith, count, end, c.loop-k-test.false)))
