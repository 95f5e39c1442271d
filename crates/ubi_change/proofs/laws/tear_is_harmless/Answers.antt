use Rattle.ubi_change.proofs.Tears.{tear_is_harmless}
use Rattle.ubi_change.proofs.laws.tear_is_harmless.Goals as goal

pub returns : goal.returns
returns c = tear_is_harmless
