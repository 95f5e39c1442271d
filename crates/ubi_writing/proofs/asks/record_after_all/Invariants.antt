use Rattle.ubi_writing.proofs.Prelude.{◌≡◌, take, record_after_all}
use Rattle.ubi_writing.proofs.asks.record_after_all.Given as goal

abbrev pub invariant-loop-edit : goal.invariant-loop-edit
invariant-loop-edit l = l.entry ≡ record_after_all l.id l.fn.entry (take l.edit-index l.edits)
