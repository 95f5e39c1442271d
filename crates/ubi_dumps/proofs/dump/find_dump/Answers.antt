use Rattle.ubi_dumps.proofs.Prelude.{given}
use Rattle.ubi_dumps.proofs.dump.find_dump.Goals as goal

pub returns-in-Given-clause-dump : goal.returns-in-Given-clause-dump
returns-in-Given-clause-dump g c = rw (c.in-Given.is, c.given.ensures.dump) given
