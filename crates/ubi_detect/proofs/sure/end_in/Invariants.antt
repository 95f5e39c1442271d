use Rattle.ubi_detect.proofs.Prelude.{◌≡◌, false, take, list_any, Narrows, WhereHeld, ends_blank, some_start}
use Rattle.ubi_detect.proofs.sure.end_in.Given as goal

-- none of the first ways does
abbrev pub invariant-loop-way : goal.invariant-loop-way
invariant-loop-way g l = record {
  source : g.S.BlockSource.known l.source ≡ g.S.BlockSource.known l.fn.source;
  narrows : Narrows (g.S.BlockSource.agrees l.fn.source) (g.S.BlockSource.agrees l.source);
  none : WhereHeld (g.S.BlockSource.agrees l.source) (λ bytes. list_any (λ w. some_start bytes l.group (ends_blank bytes l.group w.oob)) (take l.way-index l.ways) ≡ false);
}
