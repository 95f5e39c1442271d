use Rattle.ubi_commands.proofs.Prelude.{refl, words_in}
use Rattle.ubi_commands.proofs.Lacking.{no_dump, no_update}
use Rattle.ubi_commands.proofs.requests.update_of.Goals as goal

pub returns-in_err-dump_of : goal.returns-in_err-dump_of
returns-in_err-dump_of c =
    rw c.from_residual.ensures (no_dump _ refl (words_in c.args.matches.now) c.in_err-dump_of.ensures)

pub returns-in_err-volume_edits : goal.returns-in_err-volume_edits
returns-in_err-volume_edits c =
    rw c.from_residual-in_err-volume_edits.ensures (no_update (words_in c.args.matches.now) c.in_err-volume_edits.ensures)
