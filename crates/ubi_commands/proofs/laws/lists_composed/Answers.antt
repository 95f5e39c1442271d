use Rattle.ubi_commands.proofs.Composed.{lists_composed}
use Rattle.ubi_commands.proofs.laws.lists_composed.Goals as goal

pub returns : goal.returns
returns c = lists_composed
