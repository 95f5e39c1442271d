use Rattle.ubi_commands.proofs.given.volume_edits.Goals as goal

pub returns-in_err-plan_of : goal.returns-in_err-plan_of
returns-in_err-plan_of c = rw c.from_residual.ensures (λ x asked. c.in_err-plan_of.ensures x.plan asked.0)
