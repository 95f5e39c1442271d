use Rattle.ubi_compare.proofs.Prelude.{◌≡◌, ◌*◌, ◌≤◌, Narrows, WhereBothHeld, AreReadTexts}
use Rattle.ubi_compare.proofs.texts.texts_beside.Given as goal

abbrev pub invariant-loop-lnum : goal.invariant-loop-lnum
invariant-loop-lnum g l = record {
  left : g.L.BlockSource.known l.left ≡ g.L.BlockSource.known l.fn.left;
  right : g.R.BlockSource.known l.right ≡ g.R.BlockSource.known l.fn.right;
  left_narrows : Narrows (g.L.BlockSource.agrees l.fn.left) (g.L.BlockSource.agrees l.left);
  right_narrows : Narrows (g.R.BlockSource.agrees l.fn.right) (g.R.BlockSource.agrees l.right);
  small : l.bytes ≤ l.lnum * 0xFFFFFFFF;
  few : l.others ≤ l.lnum * 0xFFFFFFFF;
  read : WhereBothHeld (g.L.BlockSource.agrees l.left) (g.R.BlockSource.agrees l.right)
      (λ x y. AreReadTexts l.is_brief l.geometry l.id l.lebs l.lnum l.here.survey.now l.there.survey.now x y
      (record { left = l.bytes; right = l.others; ranges = l.ranges }));
}
