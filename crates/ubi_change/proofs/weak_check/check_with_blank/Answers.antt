use Rattle.ubi_change.proofs.Prelude.{sym, ◌∙◌, check_from-empty}
use Rattle.ubi_change.proofs.WeakPlaces.{blank_more}
use Rattle.ubi_change.proofs.weak_check.check_with_blank.Goals as goal

pub loop-init : goal.loop-init
loop-init c = sym (check_from-empty c.args.state c.ranges.state.fits)

pub loop-preserved : goal.loop-preserved
loop-preserved c = c.crc_more-register.ensures
    ∙ blank_more c.args.state c.loop.counter c.loop.register c.ranges.state.fits c.loop.invariant
