use Rattle.ubi_detect.proofs.Prelude.{◌∙◌, ◌+◌, ap, sym, ℕ, arith, ◌&&◌, block_at, is_start}
use Rattle.std.specs.Prelude.{Bool}
use Rattle.ubi_detect.proofs.Tested.{count_more}
use Rattle.ubi_detect.proofs.block_tests.count_starts.Goals as goal

pub loop-i-preserved : goal.loop-i-preserved
loop-i-preserved g c = record {
  source = c.in_ok-start_holds.ensures.source.known ∙ c.loop-i.invariant.source;
  narrows = λ bytes holds. c.loop-i.invariant.narrows bytes (c.in_ok-start_holds.ensures.source.narrows bytes holds);
  few = (let few = c.loop-i.invariant.few in let one = c.one_if.ensures.few in omega (arith, few, one));
  count = λ bytes holds.
      let p : ℕ → Bool = λ i. is_start bytes c.args.group.now (block_at c.args.group.now i)
      && g.T.BlockTest.holds c.args.test.now bytes (block_at c.args.group.now i) in
      let here = rw c.block_at.ensures.place at c.in_ok-start_holds.ensures.answer in
      ap (λ k. c.loop-i.count + k) c.one_if.ensures.value
      ∙ count_more p c.loop-i.i c.loop-i.count c.in_ok-start_holds.field-0
      (c.loop-i.invariant.count bytes (c.in_ok-start_holds.ensures.source.narrows bytes holds)) (sym (here bytes holds));
}
