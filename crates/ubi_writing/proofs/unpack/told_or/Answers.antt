use Rattle.ubi_writing.proofs.Prelude.{ap, ◌∙◌, outcome, read_failed}
use Rattle.std.proofs.Common.{Err}
use Rattle.ubi_writing.proofs.unpack.told_or.Goals as goal

pub returns-in-Ok-clause-told : goal.returns-in-Ok-clause-told
returns-in-Ok-clause-told c = λ path line. outcome c.in-Ok.is

pub returns-in-Read-clause-told : goal.returns-in-Read-clause-told
returns-in-Read-clause-told c = λ path line. read_failed (c.in-Err.is ∙ ap Err c.in-Read.is) line
