use Rattle.ubi_commands.proofs.Prelude.{refl, words_in}
use Rattle.ubi_commands.proofs.Lacking.{no_compose, no_numbers}
use Rattle.ubi_commands.proofs.requests.compose_of.Goals as goal

pub returns-in_err-numbers_of : goal.returns-in_err-numbers_of
returns-in_err-numbers_of c =
    rw c.from_residual.ensures (no_numbers _ refl (words_in c.args.matches.now) c.in_err-numbers_of.ensures)

pub returns-in_err-new_image : goal.returns-in_err-new_image
returns-in_err-new_image c =
    rw c.from_residual-in_err-new_image.ensures (no_compose (words_in c.args.matches.now) c.in_err-new_image.ensures)
