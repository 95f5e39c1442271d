use Rattle.ubi_change.proofs.Prelude.{◌≡◌, take, news_of}
use Rattle.ubi_change.proofs.placing.new_volumes.Given as goal

abbrev pub invariant-loop-i : goal.invariant-loop-i
invariant-loop-i l = l.volumes.items ≡ news_of (take l.i l.edits)
