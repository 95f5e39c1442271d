use Rattle.ubi_reading.proofs.Prelude.{◌≡◌, map, take, vec_items, image_of, rec_fault, Narrows, WhereHeld, ArePlaces, listed_volume, None, All}
use Rattle.std.specs.FinMap as finite
use Rattle.ubi_reading.proofs.list.keep_volumes.Given as goal

abbrev pub invariant-loop-kept : goal.invariant-loop-kept
invariant-loop-kept g l = record {
  source : g.S.BlockSource.known l.source ≡ g.S.BlockSource.known l.fn.source;
  narrows : Narrows (g.S.BlockSource.agrees l.fn.source) (g.S.BlockSource.agrees l.source);
  sound : All (λ v. rec_fault l.geometry v.entry ≡ None) (vec_items l.listed);
  volumes : WhereHeld (g.S.BlockSource.agrees l.source) (λ bytes. (h : ArePlaces (image_of l.geometry bytes) l.places) →
      vec_items l.listed ≡ map listed_volume (take l.kept-index (finite.entries h.meaning.volumes)));
}
