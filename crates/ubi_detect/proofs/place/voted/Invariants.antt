use Rattle.ubi_detect.proofs.Prelude.{◌≡◌, take, filter, has_vote, Narrows, WhereHeld}
use Rattle.ubi_detect.proofs.place.voted.Given as goal

abbrev pub invariant-loop-way : goal.invariant-loop-way
invariant-loop-way g l = record {
  source : g.S.BlockSource.known l.source ≡ g.S.BlockSource.known l.fn.source;
  narrows : Narrows (g.S.BlockSource.agrees l.fn.source) (g.S.BlockSource.agrees l.source);
  voted : WhereHeld (g.S.BlockSource.agrees l.source) (λ bytes. l.voted.items ≡ filter (has_vote bytes l.group) (take l.way-index l.ways));
}
