use Rattle.ubi_volume.proofs.Prelude.{◌≡◌, ◌*◌, ◌≤◌, Narrows, lebs_at, All, Wrote}
use Rattle.ubi_volume.proofs.extract.write_places.Given as goal

abbrev pub invariant-loop-lnum : goal.invariant-loop-lnum
invariant-loop-lnum g l = record {
  source : g.S.BlockSource.known l.source ≡ g.S.BlockSource.known l.fn.source;
  narrows : Narrows (g.S.BlockSource.agrees l.fn.source) (g.S.BlockSource.agrees l.source);
  wrote : Wrote (g.S.BlockSource.agrees l.source) (g.W.Write.contents l.fn.writer) (g.W.Write.contents l.writer)
      (lebs_at l.geometry l.places l.id l.extent.size l.extent.bytes l.lnum) All 0 l.done;
  few : l.done ≤ l.lnum * l.extent.size;
}
