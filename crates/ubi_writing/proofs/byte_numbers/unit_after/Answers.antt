use Rattle.ubi_writing.proofs.UnitNumbers.{named_unit_some}
use Rattle.ubi_writing.proofs.byte_numbers.unit_after.Goals as goal

pub returns-clause-some : goal.returns-clause-some
returns-clause-some c = rw c.unit_named.ensures (named_unit_some c.args.rest.now)
