use Rattle.ubi_writing.proofs.Prelude.{base_of, ◌<◌, List, Step, Ok, ◌∙◌, subst, arith, length, Appends, programmed, plan_groups, groups_count}
use Rattle.ubi_writing.proofs.MadeGroups.{fewer_left, pages_more, stays_after}
use Rattle.ubi_writing.proofs.pages.write_made.Goals as goal

pub loop-k-preserved : goal.loop-k-preserved
loop-k-preserved g c =
    let m = c.args.made.now in
    let s = m.geometry in
    let p = m.plan in
    let k = c.loop-k.k in
    let left = c.loop-k.left in
    let group = c.in-Ok.steps.items in
    let made = c.in-Ok.ensures in
    let before = g.W.Write.contents c.args.writer.now in
    let middle = g.W.Write.contents c.loop-k.writer in
    let after = g.W.Write.contents c.write_pages.new.writer in
    record {
      contents = stays_after _ _ (g.T.BlockSource.known c.group.new.contents) (Ok c.in-Ok.steps) c.loop-k.invariant.contents made.known;
      narrows = λ bytes held. c.loop-k.invariant.narrows bytes (made.narrows bytes held);
      left = λ bytes held.
          (let gs = plan_groups s p bytes in
          let count = groups_count s (base_of p) bytes p.pages.items p.holders 0 p.layings.items p.sites.items c.requires.fits.enough in
          let inside : k < length gs = (let end = c.group_count-k-end.ensures in omega (arith, count, end, c.loop-k-test.true)) in
          c.saturating_sub-left.ensures
          ∙ fewer_left gs k group inside (made.steps bytes held) m.stop left c.len-count.result
          (c.loop-k.invariant.left bytes (made.narrows bytes held)) (c.len-count.ensures ∙ c.in-Ok.steps.ok.0));
      written = λ bytes held.
          (let gs = plan_groups s p bytes in
          let count = groups_count s (base_of p) bytes p.pages.items p.holders 0 p.layings.items p.sites.items c.requires.fits.enough in
          let inside : k < length gs = (let end = c.group_count-k-end.ensures in omega (arith, count, end, c.loop-k-test.true)) in
          pages_more gs k group inside (made.steps bytes held) m.stop left (c.loop-k.invariant.left bytes (made.narrows bytes held)) before middle after
          (c.loop-k.invariant.written bytes (made.narrows bytes held))
          (subst (λ (xs : List Step). Appends middle after (programmed xs)) (c.as_slice.ensures.value ∙ c.truncate.ensures.items)
          c.in_ok-write_pages.ensures));
    }
