use Rattle.ubi_detect.proofs.Prelude.{◌≡◌, ◌+◌, true, list_all, range_with_len, ◌||◌, not, Narrows, WhereHeld, are_no_parts, may_be_parts}
use Rattle.ubi_detect.proofs.sure.is_whole_size.Given as goal

abbrev pub invariant-loop-i : goal.invariant-loop-i
invariant-loop-i g l = record {
  source : g.S.BlockSource.known l.source ≡ g.S.BlockSource.known l.fn.source;
  narrows : Narrows (g.S.BlockSource.agrees l.fn.source) (g.S.BlockSource.agrees l.source);
  all : WhereHeld (g.S.BlockSource.agrees l.source) (λ bytes.
      list_all (λ i. not (may_be_parts l.group.key.offsets l.group.size (i + 2)) || are_no_parts bytes l.group (i + 2)) (range_with_len 0 l.i) ≡ true);
}
