use Rattle.ubi_commands.proofs.Prelude.{refl, words_in}
use Rattle.ubi_commands.proofs.Lacking.{no_dump, no_rename}
use Rattle.ubi_commands.proofs.requests.rename_of.Goals as goal

pub returns-in_err-dump_of : goal.returns-in_err-dump_of
returns-in_err-dump_of c =
    rw c.from_residual.ensures (no_dump _ refl (words_in c.args.matches.now) c.in_err-dump_of.ensures)

pub returns-in_err-volume_rename : goal.returns-in_err-volume_rename
returns-in_err-volume_rename c =
    rw c.from_residual-in_err-volume_rename.ensures (no_rename (words_in c.args.matches.now) c.in_err-volume_rename.ensures)
