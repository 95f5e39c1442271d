use Rattle.ubi_files.proofs.Prelude.{bad_limit}
use Rattle.ubi_files.proofs.image_file.allowed_geometry.Goals as goal

pub returns-in_ok-limit_line-in-Err-clause-broken : goal.returns-in_ok-limit_line-in-Err-clause-broken
returns-in_ok-limit_line-in-Err-clause-broken c path =
    bad_limit c.in-Err.limit c.in-Err.ensures c.in_ok-limit_line-in-Err.ensures
