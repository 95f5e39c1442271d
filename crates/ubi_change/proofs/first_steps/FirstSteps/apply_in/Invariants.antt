use Rattle.ubi_change.proofs.Prelude.{◌≡◌, ◌-◌, length, take, Narrows, WhereHeld, block_cut, in_order, plan_groups}
use Rattle.ubi_change.proofs.first_steps.FirstSteps.apply_in.Given as goal

abbrev pub invariant-loop-k : goal.invariant-loop-k
invariant-loop-k g l = record {
  known : g.T.BlockSource.known l.contents ≡ g.T.BlockSource.known l.fn.contents;
  narrows : Narrows (g.T.BlockSource.agrees l.fn.contents) (g.T.BlockSource.agrees l.contents);
  left : WhereHeld (g.T.BlockSource.agrees l.contents) (λ bytes. l.left ≡ l.self.stop - length (in_order (take l.k (plan_groups l.geometry l.self.plan.now bytes))));
  done : WhereHeld (g.T.BlockSource.agrees l.contents) (λ bytes. l.block
      ≡ block_cut l.geometry l.p (take l.self.stop (in_order (take l.k (plan_groups l.geometry l.self.plan.now bytes)))) l.fn.block);
}
