use Rattle.ubi_change.proofs.Prelude.{◌≡◌, length, take, Narrows, WhereHeld, AllWithin, in_order, plan_groups}
use Rattle.ubi_change.proofs.update.UpdatePlan.steps.Given as goal

abbrev pub invariant-loop-k : goal.invariant-loop-k
invariant-loop-k g l = record {
  known : g.T.BlockSource.known l.contents ≡ g.T.BlockSource.known l.fn.contents;
  narrows : Narrows (g.T.BlockSource.agrees l.fn.contents) (g.T.BlockSource.agrees l.contents);
  steps : WhereHeld (g.T.BlockSource.agrees l.contents) (λ bytes. l.steps.items ≡ in_order (take l.k (plan_groups l.geometry l.self bytes)));
  within : AllWithin l.geometry (length l.self.surveyed.states) l.steps.items;
}
