use Rattle.ubi_commands.proofs.given.dump_of.Goals as goal

pub returns-in_err-numbers : goal.returns-in_err-numbers
returns-in_err-numbers c = rw c.from_residual.ensures (λ d asks. c.in_err-numbers.ensures d.numbers asks.0)

pub returns-in_err-part_of : goal.returns-in_err-part_of
returns-in_err-part_of c =
    rw c.from_residual-in_err-part_of.ensures (λ d asks. c.in_err-part_of.ensures d.part asks.1)
