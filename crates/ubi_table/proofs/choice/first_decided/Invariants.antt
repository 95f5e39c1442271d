use Rattle.ubi_table.proofs.Prelude.{◌≡◌, Narrows, WhereHeld, blocks_of}
use Rattle.ubi_table.proofs.Deciding.{NoneDecides}
use Rattle.ubi_table.proofs.choice.first_decided.Given as goal

abbrev pub invariant-loop-c : goal.invariant-loop-c
invariant-loop-c g l = record {
  source : g.S.BlockSource.known l.source ≡ g.S.BlockSource.known l.fn.source;
  narrows : Narrows (g.S.BlockSource.agrees l.fn.source) (g.S.BlockSource.agrees l.source);
  none : WhereHeld (g.S.BlockSource.agrees l.source)
      (λ bytes. NoneDecides l.geometry (blocks_of l.geometry bytes) l.c);
}
