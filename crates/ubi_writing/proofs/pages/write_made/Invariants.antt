use Rattle.ubi_writing.proofs.Prelude.{◌≡◌, length, take, Appends, Narrows, StaysOpen, WhereHeld, in_order, plan_groups, programmed, ◌-◌}
use Rattle.ubi_writing.proofs.pages.write_made.Given as goal

abbrev pub invariant-loop-k : goal.invariant-loop-k
invariant-loop-k g l = record {
  contents : StaysOpen (g.T.BlockSource.known l.fn.contents) (g.T.BlockSource.known l.contents);
  narrows : Narrows (g.T.BlockSource.agrees l.fn.contents) (g.T.BlockSource.agrees l.contents);
  left : WhereHeld (g.T.BlockSource.agrees l.contents) (λ bytes. l.left ≡ l.made.stop - length (in_order (take l.k (plan_groups l.made.geometry l.made.plan bytes))));
  written : WhereHeld (g.T.BlockSource.agrees l.contents) (λ bytes. Appends (g.W.Write.contents l.fn.writer) (g.W.Write.contents l.writer)
      (programmed (take l.made.stop (in_order (take l.k (plan_groups l.made.geometry l.made.plan bytes))))));
}
