use Rattle.ubi_compare.proofs.Tables.{records_Decides}
use Rattle.ubi_compare.proofs.compare.same_records.Goals as goal

pub returns : goal.returns
returns c = records_Decides c.args.left.now.of c.args.right.now.of c.eq.result
    (rw (c.entries.ensures.value, c.entries-2.ensures.value) at c.eq.ensures)
