use Rattle.ubi_compare.proofs.Prelude.{◌≡◌, Narrows, WhereBothHeld, HaveFound, OfMeanings, OfVolumes}
use Rattle.ubi_compare.proofs.lebs.compare_lebs.Given as goal

abbrev pub invariant-loop-lnum : goal.invariant-loop-lnum
invariant-loop-lnum g l = record {
  left : g.L.BlockSource.known l.left ≡ g.L.BlockSource.known l.fn.left;
  right : g.R.BlockSource.known l.right ≡ g.R.BlockSource.known l.fn.right;
  left_narrows : Narrows (g.L.BlockSource.agrees l.fn.left) (g.L.BlockSource.agrees l.left);
  right_narrows : Narrows (g.R.BlockSource.agrees l.fn.right) (g.R.BlockSource.agrees l.right);
  found : l.found ≡ l.fn.found;
  have : WhereBothHeld (g.L.BlockSource.agrees l.left) (g.R.BlockSource.agrees l.right)
      (λ x y. OfMeanings l.geometry l.here.survey.now l.there.survey.now x y
      (λ m n. OfVolumes l.id m n (λ v w. HaveFound l.geometry l.id v w l.ranges l.lnum)));
}
