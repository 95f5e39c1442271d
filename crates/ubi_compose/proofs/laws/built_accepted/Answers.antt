use Rattle.ubi_compose.proofs.BuiltRoom.{built_accepted}
use Rattle.ubi_compose.proofs.laws.built_accepted.Goals as goal

pub returns : goal.returns
returns c = λ ps bytes spares h reaches room. built_accepted ps h bytes reaches spares room
