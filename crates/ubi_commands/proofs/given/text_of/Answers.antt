use Rattle.ubi_commands.proofs.Prelude.{found_of}
use Rattle.ubi_commands.proofs.CommandWords.{text_given}
use Rattle.ubi_commands.proofs.given.text_of.Goals as goal

pub returns : goal.returns
returns c = text_given (found_of c.args.matches.now) c.args.name.now c.get_str.result c.get_str.ensures
