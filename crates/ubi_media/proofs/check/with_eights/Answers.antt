use Rattle.ubi_media.proofs.Prelude.{sym, ap, ◌∙◌, take_all, concat, check_from}
use Rattle.ubi_media.proofs.Checks.{check_from-empty, check_from-piece}
use Rattle.ubi_media.proofs.check.with_eights.Goals as goal

pub loop-eight-init : goal.loop-eight-init
loop-eight-init c = sym (check_from-empty c.args.state c.ranges.state.fits)

pub loop-eight-preserved : goal.loop-eight-preserved
loop-eight-preserved c =
    check_from-piece c.args.state c.loop-eight.eight-index c.args.eights.now _ _ c.ranges.state.fits
    c.loop-eight-test.true c.loop-eight.invariant c.with_eight-register.ensures

pub returns : goal.returns
returns c =
    c.loop-eight.invariant
    ∙ ap (λ pieces. check_from c.args.state (concat pieces))
    (take_all c.loop-eight.eight-index c.args.eights.now c.loop-eight-test.false)
