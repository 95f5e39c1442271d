use Rattle.ubi_writing.proofs.Prelude.{◌≡◌, blocks_in}
use Rattle.ubi_writing.proofs.plan_image.remark_listed.Given as goal

abbrev pub invariant-loop-p : goal.invariant-loop-p
invariant-loop-p g l = record {
  blocks : blocks_in l.geometry (g.S.BlockSource.known l.source) ≡ blocks_in l.geometry (g.S.BlockSource.known l.fn.source);
}
