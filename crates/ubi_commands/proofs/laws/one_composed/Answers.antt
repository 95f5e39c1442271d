use Rattle.ubi_commands.proofs.Composed.{one_composed}
use Rattle.ubi_commands.proofs.laws.one_composed.Goals as goal

pub returns : goal.returns
returns c = one_composed
