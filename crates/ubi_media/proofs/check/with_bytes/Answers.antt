use Rattle.ubi_media.proofs.Prelude.{sym, ap, ◌∙◌, take_all, check_from}
use Rattle.ubi_media.proofs.Checks.{check_from-empty, check_from-more}
use Rattle.ubi_media.proofs.check.with_bytes.Goals as goal

pub loop-byte-init : goal.loop-byte-init
loop-byte-init c = sym (check_from-empty c.args.state c.ranges.state.fits)

pub loop-byte-preserved : goal.loop-byte-preserved
loop-byte-preserved c =
    check_from-more c.args.state c.loop-byte.byte-index c.args.bytes.now _ _ c.ranges.state.fits c.loop-byte-test.true
    c.loop-byte.invariant c.with_byte-register.ensures

pub returns : goal.returns
returns c =
    c.loop-byte.invariant
    ∙ ap (check_from c.args.state) (take_all c.loop-byte.byte-index c.args.bytes.now c.loop-byte-test.false)
