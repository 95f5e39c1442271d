use Rattle.ubi_volume.proofs.Prelude.{◌≡◌, take, vec_items, Narrows, AreContents, IsContentOf}
use Rattle.ubi_volume.proofs.places.Places.meaning_from.Given as goal

abbrev pub invariant-loop-listed : goal.invariant-loop-listed
invariant-loop-listed g l = record {
  source : g.S.BlockSource.known l.source ≡ g.S.BlockSource.known l.fn.source;
  narrows : Narrows (g.S.BlockSource.agrees l.fn.source) (g.S.BlockSource.agrees l.source);
  contents : AreContents (IsContentOf l.geometry (g.S.BlockSource.agrees l.source)) (take l.listed-index l.listed-items)
      (vec_items l.volumes);
}
