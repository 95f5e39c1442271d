use Rattle.ubi_commands.proofs.Prelude.{refl, words_in}
use Rattle.ubi_commands.proofs.Lacking.{no_change, no_dump}
use Rattle.ubi_commands.proofs.requests.change_of.Goals as goal

pub returns-in_err-dump_of : goal.returns-in_err-dump_of
returns-in_err-dump_of c =
    rw c.from_residual.ensures (no_dump _ refl (words_in c.args.matches.now) c.in_err-dump_of.ensures)

pub returns-in_err-leb_change : goal.returns-in_err-leb_change
returns-in_err-leb_change c =
    rw c.from_residual-in_err-leb_change.ensures (no_change (words_in c.args.matches.now) c.in_err-leb_change.ensures)
