use Rattle.ubi_table.proofs.DraftedRecords.{AreBelow}
use Rattle.ubi_table.proofs.draft.Draft.table.Given as goal

abbrev pub invariant-loop-slot : goal.invariant-loop-slot
invariant-loop-slot l = AreBelow l.self-inside.held l.slot-counter l.records.items
