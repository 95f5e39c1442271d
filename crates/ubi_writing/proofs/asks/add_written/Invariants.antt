use Rattle.ubi_writing.proofs.Prelude.{◌≡◌, fold, take, with_written}
use Rattle.ubi_writing.proofs.asks.add_written.Given as goal

abbrev pub invariant-loop-volume : goal.invariant-loop-volume
invariant-loop-volume l = l.edits.items ≡ fold (with_written l.table) l.initial.edits.items (take l.volume-index l.volumes)
