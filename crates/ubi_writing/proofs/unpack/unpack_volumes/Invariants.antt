use Rattle.ubi_writing.proofs.Prelude.{◌≡◌, take, image_of, Narrows, WhereHeld, ArePlaces, read_volume, OutsideStay, AreUnpacked}
use Rattle.std.specs.FinMap as finite
use Rattle.ubi_writing.proofs.unpack.unpack_volumes.Given as goal

abbrev pub invariant-loop-i : goal.invariant-loop-i
invariant-loop-i g l = record {
  source : g.S.BlockSource.known l.source ≡ g.S.BlockSource.known l.fn.source;
  narrows : Narrows (g.S.BlockSource.agrees l.fn.source) (g.S.BlockSource.agrees l.source);
  unpacked : WhereHeld (g.S.BlockSource.agrees l.source) (λ bytes. (h : ArePlaces (image_of l.geometry bytes) l.places) →
      AreUnpacked (read_volume h.meaning) l.folder.path.now (take l.i (finite.entries l.places.records.of)) (g.D.Disk.files l.fn.disk)
      (g.D.Disk.files l.disk));
  outside : OutsideStay (g.D.Disk.files l.fn.disk) (g.D.Disk.files l.disk) l.folder.path.now;
}
