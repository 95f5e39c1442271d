use Rattle.ubi_commands.proofs.LeastTold.{least_told}
use Rattle.ubi_commands.proofs.laws.least_told.Goals as goal

pub returns : goal.returns
returns c = least_told
