use Rattle.ubi_commands.proofs.Prelude.{refl, words_in}
use Rattle.ubi_commands.proofs.Lacking.{no_extract, no_asked}
use Rattle.ubi_commands.proofs.requests.extract_of.Goals as goal

pub returns-in_err-asked_of : goal.returns-in_err-asked_of
returns-in_err-asked_of c =
    rw c.from_residual.ensures (no_asked _ refl (words_in c.args.matches.now) c.in_err-asked_of.ensures)

pub returns-in_err-volume_extract : goal.returns-in_err-volume_extract
returns-in_err-volume_extract c =
    rw c.from_residual-in_err-volume_extract.ensures (no_extract (words_in c.args.matches.now) c.in_err-volume_extract.ensures)
