use Rattle.ubi_scan.proofs.Prelude.{◌≡◌, Narrows, WhereHeld, blocks_of, NoneAnchors}
use Rattle.ubi_scan.proofs.passed_over.first_anchor.Given as goal

abbrev pub invariant-loop-p : goal.invariant-loop-p
invariant-loop-p g l = record {
  known : g.S.BlockSource.known l.source ≡ g.S.BlockSource.known l.fn.source;
  narrows : Narrows (g.S.BlockSource.agrees l.fn.source) (g.S.BlockSource.agrees l.source);
  none : WhereHeld (g.S.BlockSource.agrees l.source) (λ bytes. NoneAnchors l.geometry (blocks_of l.geometry bytes) l.p);
}
