use Rattle.ubi_detect.proofs.Prelude.{◌∙◌, ◌+◌, ◌*◌, ◌/◌, ◌-◌, sym, ℕ}
use Rattle.std.specs.Prelude.{Bool}
use Rattle.ubi_detect.proofs.Tested.{any_here, none_more}
use Rattle.ubi_detect.proofs.sure.SomePartBlockTest.holds.Goals as goal

pub returns-then-branch-clause-answer : goal.returns-then-branch-clause-answer
returns-then-branch-clause-answer g c = λ bytes holds.
    let s = c.args.self.now in
    let p : ℕ → Bool = λ j. g.T.BlockTest.holds s.test.now bytes (c.args.at + (j + 1) * (s.size / s.parts)) in
    sym (any_here p (s.parts - 1) c.loop-j.j c.loop-j-test.true (sym (c.in_ok-holds.ensures.answer bytes holds) ∙ c.if-branch.true))

pub loop-j-preserved : goal.loop-j-preserved
loop-j-preserved g c = record {
  source = c.in_ok-holds.ensures.source.known ∙ c.loop-j.invariant.source;
  narrows = λ bytes holds. c.loop-j.invariant.narrows bytes (c.in_ok-holds.ensures.source.narrows bytes holds);
  none = λ bytes holds.
      let s = c.args.self.now in
      let p : ℕ → Bool = λ j. g.T.BlockTest.holds s.test.now bytes (c.args.at + (j + 1) * (s.size / s.parts)) in
      none_more p c.loop-j.j (c.loop-j.invariant.none bytes (c.in_ok-holds.ensures.source.narrows bytes holds))
      (sym (c.in_ok-holds.ensures.answer bytes holds) ∙ c.if-branch.false);
}
