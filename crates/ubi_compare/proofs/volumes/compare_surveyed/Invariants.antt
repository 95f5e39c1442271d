use Rattle.ubi_compare.proofs.Prelude.{◌≡◌, Narrows, WhereBothHeld, Adds, OfMeanings, first_differences}
use Rattle.ubi_compare.proofs.volumes.compare_surveyed.Given as goal

abbrev pub invariant-loop-id : goal.invariant-loop-id
invariant-loop-id g l = record {
  left : g.L.BlockSource.known l.left ≡ g.L.BlockSource.known l.fn.left;
  right : g.R.BlockSource.known l.right ≡ g.R.BlockSource.known l.fn.right;
  left_narrows : Narrows (g.L.BlockSource.agrees l.fn.left) (g.L.BlockSource.agrees l.left);
  right_narrows : Narrows (g.R.BlockSource.agrees l.fn.right) (g.R.BlockSource.agrees l.right);
  told : WhereBothHeld (g.L.BlockSource.agrees l.left) (g.R.BlockSource.agrees l.right)
      (λ x y. OfMeanings l.geometry l.here l.there x y (λ m n. Adds l.fn.found l.found (first_differences l.id m n)));
}
