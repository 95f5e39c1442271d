use Rattle.ubi_detect.proofs.Prelude.{◌≡◌, Narrows, WhereHeld, NoHeads}
use Rattle.ubi_detect.proofs.plain.first_head.Given as goal

abbrev pub invariant-loop-u : goal.invariant-loop-u
invariant-loop-u g l = record {
  source : g.S.BlockSource.known l.source ≡ g.S.BlockSource.known l.fn.source;
  narrows : Narrows (g.S.BlockSource.agrees l.fn.source) (g.S.BlockSource.agrees l.source);
  none : WhereHeld (g.S.BlockSource.agrees l.source) (λ bytes. NoHeads bytes l.from l.u);
}
