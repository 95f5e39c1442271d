use Rattle.ubi_volume.proofs.Prelude.{◌≡◌, ◌≤◌, Narrows, WhereHeld, blocks_of, AreKeptLebs}
use Rattle.ubi_volume.proofs.block.count_kept.Given as goal

abbrev pub invariant-loop-lnum : goal.invariant-loop-lnum
invariant-loop-lnum g l = record {
  source : g.S.BlockSource.known l.source ≡ g.S.BlockSource.known l.fn.source;
  narrows : Narrows (g.S.BlockSource.agrees l.fn.source) (g.S.BlockSource.agrees l.source);
  kept : WhereHeld (g.S.BlockSource.agrees l.source)
      (λ bytes. AreKeptLebs l.geometry (blocks_of l.geometry bytes) l.id l.entry l.lnum l.count);
  few : l.count ≤ l.lnum;
}
