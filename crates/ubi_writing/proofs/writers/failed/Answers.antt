use Rattle.ubi_writing.proofs.Prelude.{ap, no_read, no_write}
use Rattle.std.proofs.Common.{Err}
use Rattle.ubi_writing.proofs.writers.failed.Goals as goal

pub returns-in-Read : goal.returns-in-Read
returns-in-Read c = λ there. no_read (ap Err c.in-Read.is)

pub returns-in-Write : goal.returns-in-Write
returns-in-Write c = λ there. no_write (ap Err c.in-Write.is)
