use Rattle.ubi_scan.proofs.Prelude.{◌≡◌, Narrows, WhereHeld, blocks_of}
use Rattle.ubi_scan.proofs.SoFar.{IsSoFar}
use Rattle.ubi_scan.proofs.WithinTaken.{IsWithin}
use Rattle.ubi_scan.proofs.scans.scan_blocks.Given as goal

abbrev pub invariant-loop-p : goal.invariant-loop-p
invariant-loop-p g l = record {
  source : g.S.BlockSource.known l.source ≡ g.S.BlockSource.known l.fn.source;
  narrows : Narrows (g.S.BlockSource.agrees l.fn.source) (g.S.BlockSource.agrees l.source);
  within : IsWithin l.p l.pass;
  so_far : WhereHeld (g.S.BlockSource.agrees l.source)
      (λ bytes. IsSoFar l.geometry (blocks_of l.geometry bytes) l.p l.pass);
}
