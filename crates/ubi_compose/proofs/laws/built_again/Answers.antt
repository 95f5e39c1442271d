use Rattle.ubi_compose.proofs.BuiltAgain.{built_again}
use Rattle.ubi_compose.proofs.laws.built_again.Goals as goal

pub returns : goal.returns
returns c = built_again
