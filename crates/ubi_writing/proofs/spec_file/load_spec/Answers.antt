use Rattle.ubi_writing.proofs.Prelude.{err_from_is_err_and, cannot_read, Tells-weaker}
use Rattle.ubi_writing.proofs.spec_file.load_spec.Goals as goal

pub returns-in-Err-clause-unread : goal.returns-in-Err-clause-unread
returns-in-Err-clause-unread g c =
    Tells-weaker _ _ (λ o h. cannot_read c.in_ok-geometry.ensures.limits h) c.unread_file.result c.unread_file.ensures.line

pub returns-in_err-geometry-clause-unread : goal.returns-in_err-geometry-clause-unread
returns-in_err-geometry-clause-unread g c =
    let p = err_from_is_err_and c.from_residual.result c.from_residual.ensures.1 in
    rw (p.1, p.2) (c.in_err-geometry.ensures.broken c.args.path.now)
