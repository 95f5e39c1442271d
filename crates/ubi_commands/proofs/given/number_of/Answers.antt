use Rattle.ubi_commands.proofs.Prelude.{ExplainsUnsignedError, HasUnsignedDigitsIfOk, ParsesUnsigned, found_of}
use Rattle.ubi_commands.proofs.CommandWords.{number_given, one_given}
use Rattle.ubi_commands.proofs.given.number_of.Goals as goal

pub returns-clause-whole : goal.returns-clause-whole
returns-clause-whole c =
    number_given _ (λ t r. ParsesUnsigned 32 10 t r × ExplainsUnsignedError 10 t r × HasUnsignedDigitsIfOk t r)
    (found_of c.args.matches.now) c.args.name.now c.get_one.result (λ t r gives. gives.0)
    c.get_one.ensures.none c.get_one.ensures.value

pub returns-clause-one : goal.returns-clause-one
returns-clause-one c =
    one_given (found_of c.args.matches.now) c.args.name.now c.get_one.result (returns-clause-whole c)
