use Rattle.ubi_commands.proofs.Prelude.{◌∙◌, found_of}
use Rattle.ubi_commands.proofs.CommandWords.{is_given}
use Rattle.ubi_commands.proofs.given.gives.Goals as goal

pub returns : goal.returns
returns c =
    c.is_some.ensures ∙ is_given (found_of c.args.matches.now) c.args.name.now c.get_str.result c.get_str.ensures
