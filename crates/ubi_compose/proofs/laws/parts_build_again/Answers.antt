use Rattle.ubi_compose.proofs.PartsAgain.{parts_build_again}
use Rattle.ubi_compose.proofs.laws.parts_build_again.Goals as goal

pub returns : goal.returns
returns c = parts_build_again
