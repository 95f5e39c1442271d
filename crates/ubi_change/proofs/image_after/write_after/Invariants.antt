use Rattle.ubi_change.proofs.Prelude.{◌≡◌, ◌*◌, Narrows, StaysOpen, WhereHeld, blocks_in, Wrote, front_text}
use Rattle.ubi_volume.specs.Wrote.{All}
use Rattle.ubi_change.proofs.image_after.write_after.Given as goal

abbrev pub invariant-loop-p : goal.invariant-loop-p
invariant-loop-p g l = record {
  source : g.S.BlockSource.known l.source ≡ g.S.BlockSource.known l.fn.source;
  narrows : Narrows (g.S.BlockSource.agrees l.fn.source) (g.S.BlockSource.agrees l.source);
  ready : g.E.BlockSteps.ready l.steps l.geometry;
  same : g.E.BlockSteps.plan l.steps ≡ g.E.BlockSteps.plan l.fn.steps;
  kept : StaysOpen (g.E.BlockSteps.known l.fn.steps) (g.E.BlockSteps.known l.steps);
  contents : Narrows (g.E.BlockSteps.agrees l.fn.steps) (g.E.BlockSteps.agrees l.steps);
  wrote : WhereHeld (g.E.BlockSteps.agrees l.steps) (λ bytes. Wrote (g.S.BlockSource.agrees l.source) (g.W.Write.contents l.fn.writer)
      (g.W.Write.contents l.writer) (front_text l.geometry (blocks_in l.geometry (g.S.BlockSource.known l.fn.source)) l.p (g.E.BlockSteps.plan l.fn.steps bytes)) All 0 l.done);
  done : l.done ≡ l.p * l.geometry.peb_size;
}
