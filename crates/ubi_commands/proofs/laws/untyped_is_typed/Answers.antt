use Rattle.ubi_commands.proofs.UntypedIsTyped.{untyped_is_typed}
use Rattle.ubi_commands.proofs.laws.untyped_is_typed.Goals as goal

pub returns : goal.returns
returns c = untyped_is_typed
