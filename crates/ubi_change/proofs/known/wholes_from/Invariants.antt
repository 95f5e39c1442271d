use Rattle.ubi_change.proofs.Prelude.{◌≡◌, length, take, Narrows, WhereHeld, image_of, AreWholes}
use Rattle.ubi_change.proofs.known.wholes_from.Given as goal

abbrev pub invariant-loop-i : goal.invariant-loop-i
invariant-loop-i g l = record {
  source : g.S.BlockSource.known l.source ≡ g.S.BlockSource.known l.fn.source;
  narrows : Narrows (g.S.BlockSource.agrees l.fn.source) (g.S.BlockSource.agrees l.source);
  count : length l.wholes.items ≡ l.i;
  wholes : WhereHeld (g.S.BlockSource.agrees l.source)
      (λ bytes. AreWholes (image_of l.geometry bytes) l.surveyed (take l.i l.edits) l.wholes.items);
}
