use Rattle.ubi_detect.proofs.Prelude.{◌∙◌, ◌+◌, ◌/◌, sym, ℕ, step, has_part_start}
use Rattle.std.specs.Prelude.{Bool}
use Rattle.ubi_detect.proofs.Tested.{any_here, none_more}
use Rattle.ubi_detect.proofs.sure.has_inner_start.Goals as goal

pub returns-then-branch-clause-has : goal.returns-then-branch-clause-has
returns-then-branch-clause-has g c = λ bytes holds.
    let p : ℕ → Bool = λ i. has_part_start bytes c.args.group.now (i + 2) in
    sym (any_here p (c.args.group.now.size / step) c.loop-i.i c.loop-i-test.true
    (sym (c.in_ok-has_part_start.ensures.has bytes holds) ∙ c.if-branch.true))

pub loop-i-preserved : goal.loop-i-preserved
loop-i-preserved g c = record {
  source = c.in_ok-has_part_start.ensures.source.known ∙ c.loop-i.invariant.source;
  narrows = λ bytes holds. c.loop-i.invariant.narrows bytes (c.in_ok-has_part_start.ensures.source.narrows bytes holds);
  none = λ bytes holds.
      let p : ℕ → Bool = λ i. has_part_start bytes c.args.group.now (i + 2) in
      none_more p c.loop-i.i (c.loop-i.invariant.none bytes (c.in_ok-has_part_start.ensures.source.narrows bytes holds))
      (sym (c.in_ok-has_part_start.ensures.has bytes holds) ∙ c.if-branch.false);
}
