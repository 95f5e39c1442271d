use Rattle.ubi_commands.proofs.Prelude.{codes, words_in}
use Rattle.ubi_commands.proofs.GivenKey.{neither, not_given}
use Rattle.ubi_commands.proofs.given.key_of.Goals as goal

pub returns-in_err-number_of-in-None-default : goal.returns-in_err-number_of-in-None-default
returns-in_err-number_of-in-None-default c =
    rw c.from_residual.ensures
    (neither (words_in c.args.matches.now) c.in_err-number_of-in-None-default.ensures.one c.in-None-default.ensures)

pub returns-in_ok-number_of-in-None-default : goal.returns-in_ok-number_of-in-None-default
returns-in_ok-number_of-in-None-default c =
    (c.in_ok-number_of-in-None-default.ensures.one, not_given (words_in c.args.matches.now) (codes "name") c.in-None-default.ensures)

pub returns-in-Some-None : goal.returns-in-Some-None
returns-in-Some-None c =
    (c.in-Some-None.ensures, not_given (words_in c.args.matches.now) (codes "id") c.in-Some-None.ensures')
