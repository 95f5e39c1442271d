use Rattle.ubi_commands.proofs.Prelude.{◌∙◌, found_of, first_value-rows}
use Rattle.ubi_commands.proofs.given.may_text_of.Goals as goal

pub returns : goal.returns
returns c = c.get_str.ensures ∙ first_value-rows (found_of c.args.matches.now) c.args.name.now
