use Rattle.ubi_detect.proofs.Prelude.{◌∙◌, ◌+◌, ◌/◌, sym, ℕ, ◌||◌, not, step, are_no_parts, may_be_parts}
use Rattle.std.specs.Prelude.{Bool}
use Rattle.ubi_detect.proofs.Tested.{all_fails, all_pass}
use Rattle.ubi_detect.proofs.sure.is_whole_size.Goals as goal

pub returns-then-not-branch-clause-is : goal.returns-then-not-branch-clause-is
returns-then-not-branch-clause-is g c = λ bytes holds.
    let f = c.args.group.now in
    let p : ℕ → Bool = λ i. not (may_be_parts f.key.offsets f.size (i + 2)) || are_no_parts bytes f (i + 2) in
    sym (all_fails p (f.size / step) c.loop-i.i c.loop-i-test.true (sym (c.in_ok-is_no_number.ensures.is bytes holds) ∙ c.if-not-branch.true))

pub loop-i-preserved : goal.loop-i-preserved
loop-i-preserved g c = record {
  source = c.in_ok-is_no_number.ensures.source.known ∙ c.loop-i.invariant.source;
  narrows = λ bytes holds. c.loop-i.invariant.narrows bytes (c.in_ok-is_no_number.ensures.source.narrows bytes holds);
  all = λ bytes holds.
      let f = c.args.group.now in
      let p : ℕ → Bool = λ i. not (may_be_parts f.key.offsets f.size (i + 2)) || are_no_parts bytes f (i + 2) in
      all_pass p c.loop-i.i (c.loop-i.invariant.all bytes (c.in_ok-is_no_number.ensures.source.narrows bytes holds))
      (sym (c.in_ok-is_no_number.ensures.is bytes holds) ∙ c.if-not-branch.false);
}
