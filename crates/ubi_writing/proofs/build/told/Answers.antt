use Rattle.ubi_writing.proofs.Prelude.{ap, arith, refl, ◌∙◌}
use Rattle.std.proofs.Common.{Err}
use Rattle.ubi_writing.proofs.BuiltInto.{unread_line}
use Rattle.ubi_writing.proofs.build.told.Goals as goal

pub returns-in-Read-clause-told : goal.returns-in-Read-clause-told
returns-in-Read-clause-told c = λ config out sections are.
    rw (c.in-Err.is ∙ ap Err c.in-Read.is) (unread_line config out sections c.args.answers are c.unread_of.result c.unread_of.ensures)

pub returns-clause-told : goal.returns-clause-told
returns-clause-told c = λ config out sections are.
    rw (c.in-Err.is ∙ ap Err c.in-Beyond.is) (config, (0, omega arith, refl), are.unread_else)
