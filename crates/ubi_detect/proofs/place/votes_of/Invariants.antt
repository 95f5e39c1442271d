use Rattle.ubi_detect.proofs.Prelude.{◌≡◌, take, vec_len, map, votes, Narrows, WhereHeld}
use Rattle.ubi_detect.proofs.place.votes_of.Given as goal

abbrev pub invariant-loop-way : goal.invariant-loop-way
invariant-loop-way g l = record {
  source : g.S.BlockSource.known l.source ≡ g.S.BlockSource.known l.fn.source;
  narrows : Narrows (g.S.BlockSource.agrees l.fn.source) (g.S.BlockSource.agrees l.source);
  many : vec_len l.counts ≡ l.way-index;
  votes : WhereHeld (g.S.BlockSource.agrees l.source) (λ bytes. l.counts.items ≡ map (votes bytes l.group) (take l.way-index l.ways));
}
