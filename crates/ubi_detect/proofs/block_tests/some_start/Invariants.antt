use Rattle.ubi_detect.proofs.Prelude.{◌≡◌, false, list_any, range_with_len, ◌&&◌, Narrows, WhereHeld, block_at, is_start}
use Rattle.ubi_detect.proofs.block_tests.some_start.Given as goal

-- none of the first eraseblocks passes
abbrev pub invariant-loop-i : goal.invariant-loop-i
invariant-loop-i g l = record {
  source : g.S.BlockSource.known l.source ≡ g.S.BlockSource.known l.fn.source;
  narrows : Narrows (g.S.BlockSource.agrees l.fn.source) (g.S.BlockSource.agrees l.source);
  none : WhereHeld (g.S.BlockSource.agrees l.source) (λ bytes.
      list_any (λ i. is_start bytes l.group (block_at l.group i) && g.T.BlockTest.holds l.test bytes (block_at l.group i)) (range_with_len 0 l.i) ≡ false);
}
