use Rattle.ubi_change.proofs.Prelude.{base_of, ◌≡◌, ◌+◌, ◌<◌, List, [], ℕ, ap, sym, ◌∙◌, arith, length, take, get_or, slice_get-get_or, Step, block_cut, plan_groups}
use Rattle.ubi_change.proofs.AllGroups.{groups_count}
use Rattle.ubi_change.proofs.CutBlocks.{first_within}
use Rattle.ubi_change.proofs.GroupsApart.{carried_more, counted_group, group_apart, left_less}
use Rattle.ubi_change.proofs.first_steps.FirstSteps.apply_in.Given as given
use Rattle.ubi_change.proofs.first_steps.FirstSteps.apply_in.Goals as goal
use Rattle.ubi_change.proofs.first_steps.FirstSteps.apply_in.Goals.{then-may_work_on+in_ok-steps, else-may_work_on}

pub apply_all-requires-clause-within : goal.apply_all-requires-clause-within
apply_all-requires-clause-within g c =
    let n = length c.args.self.now.plan.now.surveyed.states in
    let held : c.as_slice.result.now ≡ take c.loop-k.left c.in_ok-steps.steps.items = c.as_slice.ensures.value ∙ c.truncate.ensures.items in
    (n, rw held (first_within c.args.geometry.now n c.in_ok-steps.steps.items c.loop-k.left c.in_ok-steps.ensures.within))

count : (g : given.Over) (c : goal.After-saturating_sub-left g) (bytes : List ℕ)
    → length (plan_groups c.args.geometry.now c.args.self.now.plan.now bytes) ≡ length c.args.self.now.plan.now.layings.items + 2
count g c bytes =
    let p = c.args.self.now.plan.now in
    groups_count c.args.geometry.now (base_of p) bytes p.pages.items p.holders 0 p.layings.items p.sites.items c.requires.fits.enough

inside : (g : given.Over) (c : goal.After-saturating_sub-left g) (bytes : List ℕ)
    → c.loop-k.k < length (plan_groups c.args.geometry.now c.args.self.now.plan.now bytes)
inside g c bytes = let n = count g c bytes in let end = c.group_count-k-end.ensures in omega (arith, n, end, c.loop-k-test.true)

pub loop-k-preserved : goal.loop-k-preserved
loop-k-preserved g c =
    let s = c.args.geometry.now in
    let p = c.args.self.now.plan.now in
    let k = c.loop-k.k in
    let stop = c.args.self.now.stop in
    let left = c.loop-k.left in
    let counts = c.args.self.now.counts.now in
    elim c.if-may_work_on.branch [
      | then-may_work_on+in_ok-steps w ↦
          let made = w.in_ok-steps.ensures in
          let group = w.in_ok-steps.steps.items in
          rw (w.contents-is, w.block-is) (record {
            known = made.known ∙ c.loop-k.invariant.known;
            narrows = λ bytes held. c.loop-k.invariant.narrows bytes (made.narrows bytes held);
            left = λ bytes held.
                (let before = made.narrows bytes held in
                let is = made.steps bytes held in
                c.saturating_sub-left.ensures
                ∙ left_less s p bytes k c.args.p stop left group (inside g c bytes) is (c.loop-k.invariant.left bytes before) _
                (counted_group (plan_groups s p bytes) counts (c.requires.counts bytes (c.loop-k.invariant.narrows bytes before)) k 0 group
                (let i = inside g c bytes in let n = count g c bytes in omega (arith, i, n, c.requires.counted)) is));
            done = λ bytes held.
                (let before = made.narrows bytes held in
                carried_more s p bytes k c.args.p stop left group (inside g c bytes) (made.steps bytes held) (c.loop-k.invariant.left bytes before)
                c.args.block.now c.loop-k.block w.apply_all.new.block (c.loop-k.invariant.done bytes before)
                (w.apply_all.ensures.done
                ∙ ap (λ (xs : List Step). block_cut s c.args.p xs c.loop-k.block) (w.as_slice.ensures.value ∙ w.truncate.ensures.items)));
          })
      | else-may_work_on w ↦
          rw (w.contents-is, w.block-is) (record {
            known = c.loop-k.invariant.known;
            narrows = c.loop-k.invariant.narrows;
            left = λ bytes held.
                (let group = get_or (plan_groups s p bytes) k [] in
                let is = slice_get-get_or (plan_groups s p bytes) k [] (inside g c bytes) in
                c.saturating_sub-left.ensures
                ∙ left_less s p bytes k c.args.p stop left group (inside g c bytes) is (c.loop-k.invariant.left bytes held) _
                (counted_group (plan_groups s p bytes) counts (c.requires.counts bytes (c.loop-k.invariant.narrows bytes held)) k 0 group
                (let i = inside g c bytes in let n = count g c bytes in omega (arith, i, n, c.requires.counted)) is));
            done = λ bytes held.
                (let group = get_or (plan_groups s p bytes) k [] in
                let is = slice_get-get_or (plan_groups s p bytes) k [] (inside g c bytes) in
                carried_more s p bytes k c.args.p stop left group (inside g c bytes) is (c.loop-k.invariant.left bytes held)
                c.args.block.now c.loop-k.block c.loop-k.block (c.loop-k.invariant.done bytes held)
                (sym (group_apart s (g.T.BlockSource.known c.args.contents.now).size p c.requires.fits bytes k c.args.p
                (c.may_work_on.ensures w.if-may_work_on.false) group
                (let end = c.group_count-k-end.ensures in omega (arith, end, c.loop-k-test.true)) is left c.loop-k.block)));
          })
    ]
