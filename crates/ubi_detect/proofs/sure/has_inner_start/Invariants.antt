use Rattle.ubi_detect.proofs.Prelude.{◌≡◌, ◌+◌, false, list_any, range_with_len, Narrows, WhereHeld, has_part_start}
use Rattle.ubi_detect.proofs.sure.has_inner_start.Given as goal

abbrev pub invariant-loop-i : goal.invariant-loop-i
invariant-loop-i g l = record {
  source : g.S.BlockSource.known l.source ≡ g.S.BlockSource.known l.fn.source;
  narrows : Narrows (g.S.BlockSource.agrees l.fn.source) (g.S.BlockSource.agrees l.source);
  none : WhereHeld (g.S.BlockSource.agrees l.source) (λ bytes. list_any (λ i. has_part_start bytes l.group (i + 2)) (range_with_len 0 l.i) ≡ false);
}
