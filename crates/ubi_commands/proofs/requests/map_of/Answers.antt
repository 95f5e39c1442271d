use Rattle.ubi_commands.proofs.Prelude.{refl, words_in}
use Rattle.ubi_commands.proofs.Lacking.{no_asked}
use Rattle.ubi_commands.proofs.requests.map_of.Goals as goal

pub returns-in_err-asked_of : goal.returns-in_err-asked_of
returns-in_err-asked_of c =
    rw c.from_residual.ensures (no_asked _ refl (words_in c.args.matches.now) c.in_err-asked_of.ensures)
