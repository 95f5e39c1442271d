use Rattle.ubi_volume.proofs.Prelude.{refl, arith}
use Rattle.ubi_volume.proofs.MeaningCauses.{content_found, content_more, none_left, sound_here}
use Rattle.ubi_volume.proofs.meaning.content_range.Goals as goal

pub fits-requires : goal.fits-requires
fits-requires c = sound_here _ _ c.loop-i.i c.index-volumes-i.result c.loop-i-test.true c.index-volumes-i.is c.requires
    _ refl

pub returns-then-not-fits : goal.returns-then-not-fits
returns-then-not-fits c =
    content_found _ _ c.loop-i.i c.index-volumes-i.result c.loop-i-test.true c.index-volumes-i.is c.fits.result
    c.fits.ensures c.if-not-fits.true c.loop-i.invariant

pub loop-i-preserved : goal.loop-i-preserved
loop-i-preserved c =
    content_more _ _ c.loop-i.i c.index-volumes-i.result c.loop-i-test.true c.index-volumes-i.is
    (c.fits.ensures.0 c.if-not-fits.false) c.loop-i.invariant

pub returns : goal.returns
returns c = none_left _ _ 6 c.loop-i.i (λ e. omega (arith, e)) (omega arith) c.loop-i.invariant
