use Rattle.ubi_writing.proofs.Prelude.{refl, no_list, no_sizes, off_grid, with_list, Tells-weaker, err_from_is_err_and}
use Rattle.ubi_writing.proofs.planners.plan_frame.Goals as goal

pub returns-then-lacks_list-clause-unplanned : goal.returns-then-lacks_list-clause-unplanned
returns-then-lacks_list-clause-unplanned g c =
    no_list (c.if-lacks_list.ensures.bad refl) (c.if-lacks_list.ensures.device refl) c.nothing.ensures (λ path. refl)

pub returns-in_err-frame-clause-unplanned : goal.returns-in_err-frame-clause-unplanned
returns-in_err-frame-clause-unplanned g c =
    let p = err_from_is_err_and c.from_residual.result c.from_residual.ensures.1 in
    rw (p.1, p.2) (Tells-weaker _ _ (λ o h. with_list (no_sizes h)) _ (c.in_err-frame.ensures.broken c.args.image.now))

pub returns-in-Some-clause-unplanned : goal.returns-in-Some-clause-unplanned
returns-in-Some-clause-unplanned g c =
    let off = rw (c.in-Some.is, c.in_ok-frame.ensures.dump) at c.in_ok-outcome.ensures.off in
    with_list (off_grid (rw c.in_ok-frame.ensures.dump at c.in_ok-frame.frame.limits) off.0 off.1 (λ path. refl))

pub returns-in_err-bare-in-None-clause-unplanned : goal.returns-in_err-bare-in-None-clause-unplanned
returns-in_err-bare-in-None-clause-unplanned g c =
    let p = err_from_is_err_and c.from_residual-in_err-bare-in-None.result c.from_residual-in_err-bare-in-None.ensures.1 in
    rw (p.1, p.2) (Tells-weaker _ _ (λ o h. with_list (no_sizes h)) _ (rw c.bare.ensures at (c.in_err-bare-in-None.ensures.broken c.args.image.now)))
