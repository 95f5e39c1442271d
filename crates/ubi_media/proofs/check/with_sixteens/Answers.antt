use Rattle.ubi_media.proofs.Prelude.{sym, ap, ◌∙◌, take_all, concat, check_from}
use Rattle.ubi_media.proofs.Checks.{check_from-empty, check_from-piece}
use Rattle.ubi_media.proofs.check.with_sixteens.Goals as goal

pub loop-sixteen-init : goal.loop-sixteen-init
loop-sixteen-init c = sym (check_from-empty c.args.state c.ranges.state.fits)

pub loop-sixteen-preserved : goal.loop-sixteen-preserved
loop-sixteen-preserved c =
    check_from-piece c.args.state c.loop-sixteen.sixteen-index c.args.sixteens.now _ _ c.ranges.state.fits
    c.loop-sixteen-test.true c.loop-sixteen.invariant c.with_sixteen-register.ensures

pub returns : goal.returns
returns c =
    c.loop-sixteen.invariant
    ∙ ap (λ pieces. check_from c.args.state (concat pieces))
    (take_all c.loop-sixteen.sixteen-index c.args.sixteens.now c.loop-sixteen-test.false)
