use Rattle.ubi_detect.proofs.Prelude.{◌∙◌, sym, ℕ, ◌&&◌, block_at, blocks, is_start}
use Rattle.std.specs.Prelude.{Bool}
use Rattle.ubi_detect.proofs.Tested.{any_here, none_more}
use Rattle.ubi_detect.proofs.block_tests.some_start.Goals as goal

pub returns-then-branch-clause-some : goal.returns-then-branch-clause-some
returns-then-branch-clause-some g c = λ bytes holds.
    let p : ℕ → Bool = λ i. is_start bytes c.args.group.now (block_at c.args.group.now i)
    && g.T.BlockTest.holds c.args.test.now bytes (block_at c.args.group.now i) in
    let here = rw c.block_at.ensures.place at c.in_ok-start_holds.ensures.answer in
    sym (any_here p (blocks c.args.group.now) c.loop-i.i (rw c.blocks-i-end.ensures at c.loop-i-test.true)
    (sym (here bytes holds) ∙ c.if-branch.true))

pub loop-i-preserved : goal.loop-i-preserved
loop-i-preserved g c = record {
  source = c.in_ok-start_holds.ensures.source.known ∙ c.loop-i.invariant.source;
  narrows = λ bytes holds. c.loop-i.invariant.narrows bytes (c.in_ok-start_holds.ensures.source.narrows bytes holds);
  none = λ bytes holds.
      let p : ℕ → Bool = λ i. is_start bytes c.args.group.now (block_at c.args.group.now i)
      && g.T.BlockTest.holds c.args.test.now bytes (block_at c.args.group.now i) in
      let here = rw c.block_at.ensures.place at c.in_ok-start_holds.ensures.answer in
      none_more p c.loop-i.i (c.loop-i.invariant.none bytes (c.in_ok-start_holds.ensures.source.narrows bytes holds))
      (sym (here bytes holds) ∙ c.if-branch.false);
}
