use Rattle.ubi_commands.proofs.ComposedFound.{composed_is_found}
use Rattle.ubi_commands.proofs.laws.composed_is_found.Goals as goal

pub returns : goal.returns
returns c = composed_is_found
