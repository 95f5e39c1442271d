use Rattle.ubi_commands.proofs.given.leb_change.Goals as goal

pub returns-in_err-plan_of : goal.returns-in_err-plan_of
returns-in_err-plan_of c = rw c.from_residual.ensures (λ x asked. c.in_err-plan_of.ensures x.plan asked.0)

pub returns-in_err-number_of : goal.returns-in_err-number_of
returns-in_err-number_of c =
    rw c.from_residual-in_err-number_of.ensures (λ x asked. c.in_err-number_of.ensures.one x.id asked.1)

pub returns-in_err-number_of-2 : goal.returns-in_err-number_of-2
returns-in_err-number_of-2 c =
    rw c.from_residual-in_err-number_of-2.ensures (λ x asked. c.in_err-number_of-2.ensures.one x.lnum asked.2)
