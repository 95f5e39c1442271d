use Rattle.ubi_commands.proofs.Prelude.{refl, words_in}
use Rattle.ubi_commands.proofs.Lacking.{no_block, no_asked}
use Rattle.ubi_commands.proofs.requests.show_of.Goals as goal

pub returns-in_err-asked_of : goal.returns-in_err-asked_of
returns-in_err-asked_of c =
    rw c.from_residual.ensures (no_asked _ refl (words_in c.args.matches.now) c.in_err-asked_of.ensures)

pub returns-in_err-number_of : goal.returns-in_err-number_of
returns-in_err-number_of c =
    rw c.from_residual-in_err-number_of.ensures (no_block (words_in c.args.matches.now) c.in_err-number_of.ensures.one)
