use Rattle.ubi_compose.proofs.NormalForm.{twice_is_once}
use Rattle.ubi_compose.proofs.laws.twice_is_once.Goals as goal

pub returns : goal.returns
returns c = twice_is_once
