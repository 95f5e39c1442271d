use Rattle.ubi_change.proofs.Prelude.{◌≡◌, ◌++◌, filter_map, range_with_len, AllByRecursion, Narrows, WhereHeld, LiesIn, built_piece, laying_of}
use Rattle.ubi_change.proofs.laying.add_part.Given as goal

abbrev pub invariant-loop-lnum : goal.invariant-loop-lnum
invariant-loop-lnum g l = record {
  known : g.T.BlockSource.known l.contents ≡ g.T.BlockSource.known l.fn.contents;
  narrows : Narrows (g.T.BlockSource.agrees l.fn.contents) (g.T.BlockSource.agrees l.contents);
  added : WhereHeld (g.T.BlockSource.agrees l.contents)
      (λ bytes. l.layings.items ≡ l.fn.layings.items
      ++ filter_map (λ lnum. laying_of l.geometry bytes (built_piece l.geometry l.part lnum)) (range_with_len 0 l.lnum));
  lie : AllByRecursion (λ x. LiesIn l.geometry (g.T.BlockSource.known l.fn.contents).size x.piece) l.layings.items;
}
