use Rattle.ubi_compose.proofs.Prelude.{◌≡◌, ◌+◌, ◌-◌, ◌*◌, ◌≤◌, ◌^◌, Narrows, All, Wrote, those, first_lebs}
use Rattle.ubi_compose.proofs.writer.put_volume.Given as goal

abbrev pub invariant-loop-piece : goal.invariant-loop-piece
invariant-loop-piece g l = record {
  source : g.S.BlockSource.known l.source ≡ g.S.BlockSource.known l.fn.source;
  narrows : Narrows (g.S.BlockSource.agrees l.fn.source) (g.S.BlockSource.agrees l.source);
  wrote : Wrote (g.S.BlockSource.agrees l.source) (g.W.Write.contents l.fn.writer) (g.W.Write.contents l.writer)
      (those (first_lebs l.device (g.C.Contents.pieces l.contents) l.id l.from)) All l.done l.total;
  few : l.total ≤ l.done + l.from * l.device.geometry.peb_size;
  inside : l.from ≤ (g.C.Contents.pieces l.contents).count l.id;
  small : l.from ≤ 2 ^ 31;
}

abbrev pub decreases-loop-piece : goal.decreases-loop-piece
decreases-loop-piece g l = 2 ^ 31 - l.from
