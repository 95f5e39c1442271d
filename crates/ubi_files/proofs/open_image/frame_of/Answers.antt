use Rattle.ubi_files.proofs.Prelude.{err_from_is_err_and}
use Rattle.ubi_files.proofs.open_image.frame_of.Goals as goal

pub returns-in_err-geometry-clause-broken : goal.returns-in_err-geometry-clause-broken
returns-in_err-geometry-clause-broken c path =
    let p = err_from_is_err_and c.from_residual.result c.from_residual.ensures.1 in
    rw (p.1, p.2) (c.in_err-geometry.ensures.broken path)
