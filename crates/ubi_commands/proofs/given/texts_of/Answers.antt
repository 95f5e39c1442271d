use Rattle.ubi_commands.proofs.Prelude.{found_of, refl}
use Rattle.ubi_commands.proofs.CommandWords.{texts_given}
use Rattle.ubi_commands.proofs.given.texts_of.Goals as goal

pub returns : goal.returns
returns c = rw c.unwrap_or.ensures (texts_given (found_of c.args.matches.now) c.args.name.now c.get_strs.result _ refl c.get_strs.ensures)
