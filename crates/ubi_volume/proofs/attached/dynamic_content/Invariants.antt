use Rattle.ubi_volume.proofs.Prelude.{◌≡◌, usable, Narrows, WhereHeld, blocks_of, AreGatheredLebs, AreKeptTexts}
use Rattle.ubi_volume.proofs.attached.dynamic_content.Given as goal

abbrev pub invariant-loop-lnum : goal.invariant-loop-lnum
invariant-loop-lnum g l = record {
  source : g.S.BlockSource.known l.source ≡ g.S.BlockSource.known l.fn.source;
  narrows : Narrows (g.S.BlockSource.agrees l.fn.source) (g.S.BlockSource.agrees l.source);
  texts : AreKeptTexts (usable l.geometry l.entry) l.lnum l.lebs;
  gathered : WhereHeld (g.S.BlockSource.agrees l.source)
      (λ bytes. AreGatheredLebs l.geometry (blocks_of l.geometry bytes) l.id l.entry l.lnum l.lebs);
}
