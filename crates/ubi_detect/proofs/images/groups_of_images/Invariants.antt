use Rattle.ubi_detect.proofs.Prelude.{◌≡◌, take, filter, is_image, Narrows, WhereHeld}
use Rattle.ubi_detect.proofs.images.groups_of_images.Given as goal

abbrev pub invariant-loop-group : goal.invariant-loop-group
invariant-loop-group g l = record {
  source : g.S.BlockSource.known l.source ≡ g.S.BlockSource.known l.fn.source;
  narrows : Narrows (g.S.BlockSource.agrees l.fn.source) (g.S.BlockSource.agrees l.source);
  images : WhereHeld (g.S.BlockSource.agrees l.source)
      (λ bytes. l.images.items ≡ filter (is_image bytes l.among.group.now l.among.way.now l.among.groups.now) (take l.group-index l.among.groups.now));
}
