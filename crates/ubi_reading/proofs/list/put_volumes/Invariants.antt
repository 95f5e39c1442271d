use Rattle.ubi_reading.proofs.Prelude.{◌≡◌, ◌++◌, take, vec_items, flat_map, image_of, Narrows, WhereHeld, ArePlaces, volume_line}
use Rattle.std.specs.FinMap as finite
use Rattle.ubi_reading.proofs.list.put_volumes.Given as goal

abbrev pub invariant-loop-listed : goal.invariant-loop-listed
invariant-loop-listed g l = record {
  source : g.S.BlockSource.known l.source ≡ g.S.BlockSource.known l.fn.source;
  narrows : Narrows (g.S.BlockSource.agrees l.fn.source) (g.S.BlockSource.agrees l.source);
  text : WhereHeld (g.S.BlockSource.agrees l.source) (λ bytes. (h : ArePlaces (image_of l.geometry bytes) l.places) →
      vec_items l.text ≡ vec_items l.initial.text ++ flat_map (volume_line l.geometry)
      (take l.listed-index (finite.entries h.meaning.volumes)));
}
