use Rattle.ubi_commands.proofs.given.sought_of.Goals as goal

pub returns-in_err-part_of : goal.returns-in_err-part_of
returns-in_err-part_of c = rw c.from_residual.ensures (λ s asks. c.in_err-part_of.ensures s.part asks.0)
