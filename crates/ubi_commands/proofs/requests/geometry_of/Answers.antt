use Rattle.ubi_commands.proofs.Prelude.{words_in}
use Rattle.ubi_commands.proofs.Lacking.{no_part}
use Rattle.ubi_commands.proofs.requests.geometry_of.Goals as goal

pub returns-in_err-part_of : goal.returns-in_err-part_of
returns-in_err-part_of c =
    rw c.from_residual.ensures (no_part (words_in c.args.matches.now) c.in_err-part_of.ensures)
