use Rattle.ubi_detect.proofs.Prelude.{◌≡◌, ◌+◌, ◌*◌, false, list_any, range_with_len, Narrows, WhereHeld}
use Rattle.ubi_detect.proofs.sure.SomePartBlockTest.holds.Given as goal

-- none of the first parts passes
abbrev pub invariant-loop-j : goal.invariant-loop-j
invariant-loop-j g l = record {
  source : g.S.BlockSource.known l.source ≡ g.S.BlockSource.known l.fn.source;
  narrows : Narrows (g.S.BlockSource.agrees l.fn.source) (g.S.BlockSource.agrees l.source);
  none : WhereHeld (g.S.BlockSource.agrees l.source) (λ bytes.
      list_any (λ j. g.T.BlockTest.holds l.self.test.now bytes (l.at + (j + 1) * l.part)) (range_with_len 0 l.j) ≡ false);
}
