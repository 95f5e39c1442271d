use Rattle.ubi_commands.proofs.given.numbers_of.Goals as goal

pub returns-in_err-size_of : goal.returns-in_err-size_of
returns-in_err-size_of c = rw c.from_residual.ensures (λ n asked. c.in_err-size_of.ensures n.peb_size asked.0)

pub returns-in_err-size_of-2 : goal.returns-in_err-size_of-2
returns-in_err-size_of-2 c =
    rw c.from_residual-in_err-size_of-2.ensures (λ n asked. c.in_err-size_of-2.ensures n.page asked.1)

pub returns-in_err-may_size_of : goal.returns-in_err-may_size_of
returns-in_err-may_size_of c =
    rw c.from_residual-in_err-may_size_of.ensures (λ n asked. c.in_err-may_size_of.ensures n.vid_offset asked.2)

pub returns-in_err-may_size_of-2 : goal.returns-in_err-may_size_of-2
returns-in_err-may_size_of-2 c =
    rw c.from_residual-in_err-may_size_of-2.ensures (λ n asked. c.in_err-may_size_of-2.ensures n.data_offset asked.3)
