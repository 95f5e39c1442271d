use Rattle.ubi_change.proofs.Prelude.{◌≡◌, take, AllByRecursion, Narrows, WhereHeld, LiesIn, all_layings}
use Rattle.ubi_change.proofs.laying.layings_from.Given as goal

abbrev pub invariant-loop-i : goal.invariant-loop-i
invariant-loop-i g l = record {
  known : g.T.BlockSource.known l.contents ≡ g.T.BlockSource.known l.fn.contents;
  narrows : Narrows (g.T.BlockSource.agrees l.fn.contents) (g.T.BlockSource.agrees l.contents);
  layings : WhereHeld (g.T.BlockSource.agrees l.contents) (λ bytes. l.layings.items ≡ all_layings l.geometry bytes (take l.i l.parts));
  lie : AllByRecursion (λ x. LiesIn l.geometry (g.T.BlockSource.known l.fn.contents).size x.piece) l.layings.items;
}
