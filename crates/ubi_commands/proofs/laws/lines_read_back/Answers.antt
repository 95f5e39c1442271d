use Rattle.ubi_commands.proofs.LinesReadBack.{lines_read_back}
use Rattle.ubi_commands.proofs.laws.lines_read_back.Goals as goal

pub returns : goal.returns
returns c = lines_read_back
