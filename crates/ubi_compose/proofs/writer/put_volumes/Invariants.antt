use Rattle.ubi_compose.proofs.Prelude.{◌≡◌, ◌+◌, ◌*◌, ◌≤◌, ◌^◌, Narrows, All, Wrote, those, first_volumes}
use Rattle.ubi_compose.proofs.writer.put_volumes.Given as goal

abbrev pub invariant-loop-id : goal.invariant-loop-id
invariant-loop-id g l = record {
  source : g.S.BlockSource.known l.source ≡ g.S.BlockSource.known l.fn.source;
  narrows : Narrows (g.S.BlockSource.agrees l.fn.source) (g.S.BlockSource.agrees l.source);
  wrote : Wrote (g.S.BlockSource.agrees l.source) (g.W.Write.contents l.fn.writer) (g.W.Write.contents l.writer)
      (those (first_volumes l.device (g.C.Contents.pieces l.contents) l.id)) All l.done l.total;
  few : l.total ≤ l.done + l.id * 2 ^ 55;
}
