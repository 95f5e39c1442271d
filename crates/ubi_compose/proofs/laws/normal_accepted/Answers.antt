use Rattle.ubi_compose.proofs.Accepted.{normal_accepted}
use Rattle.ubi_compose.proofs.laws.normal_accepted.Goals as goal

pub returns : goal.returns
returns c = λ m spares g is room. normal_accepted m g is spares room
