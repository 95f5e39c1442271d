use Rattle.ubi_detect.proofs.Prelude.{◌≡◌, ◌≤◌, range_with_len, ◌&&◌, count_by, Narrows, WhereHeld, block_at, is_start}
use Rattle.ubi_detect.proofs.block_tests.count_starts.Given as goal

-- so many of the first eraseblocks pass
abbrev pub invariant-loop-i : goal.invariant-loop-i
invariant-loop-i g l = record {
  source : g.S.BlockSource.known l.source ≡ g.S.BlockSource.known l.fn.source;
  narrows : Narrows (g.S.BlockSource.agrees l.fn.source) (g.S.BlockSource.agrees l.source);
  few : l.count ≤ l.i;
  count : WhereHeld (g.S.BlockSource.agrees l.source) (λ bytes.
      l.count ≡ count_by (λ i. is_start bytes l.group (block_at l.group i) && g.T.BlockTest.holds l.test bytes (block_at l.group i)) (range_with_len 0 l.i));
}
