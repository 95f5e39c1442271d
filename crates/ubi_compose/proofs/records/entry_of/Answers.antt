use Rattle.ubi_compose.proofs.Prelude.{arith, common_steps, record_of}
use Rattle.ubi_compose.proofs.records.entry_of.Goals as goal

pub returns-clause-entry : goal.returns-clause-entry
returns-clause-entry c = rw (record_of c.args.meaning.now c.args.id, ← c.get.ensures.value)
    (search (arith, common_steps))
