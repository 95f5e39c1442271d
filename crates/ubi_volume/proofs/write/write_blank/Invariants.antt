use Rattle.ubi_volume.proofs.Prelude.{◌≤◌, ◌-◌, Appends, blank}
use Rattle.ubi_volume.proofs.write.write_blank.Given as goal

abbrev pub invariant-loop-written : goal.invariant-loop-written
invariant-loop-written g l = record {
  within : l.written ≤ l.len;
  appended : Appends (g.W.Write.contents l.initial.writer) (g.W.Write.contents l.writer) (blank l.written);
}

abbrev pub decreases-loop-written : goal.decreases-loop-written
decreases-loop-written g l = l.len - l.written
