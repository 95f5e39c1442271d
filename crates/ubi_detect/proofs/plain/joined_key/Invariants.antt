use Rattle.ubi_detect.proofs.Prelude.{◌≡◌, Narrows, WhereHeld, AreJoined}
use Rattle.ubi_detect.proofs.plain.joined_key.Given as goal

abbrev pub invariant-loop-i : goal.invariant-loop-i
invariant-loop-i g l = record {
  source : g.S.BlockSource.known l.source ≡ g.S.BlockSource.known l.fn.source;
  narrows : Narrows (g.S.BlockSource.agrees l.fn.source) (g.S.BlockSource.agrees l.source);
  joined : WhereHeld (g.S.BlockSource.agrees l.source) (λ bytes. AreJoined bytes l.size l.i l.key);
}
