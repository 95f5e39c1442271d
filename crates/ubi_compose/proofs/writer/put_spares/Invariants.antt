use Rattle.ubi_compose.proofs.Prelude.{◌+◌, ◌*◌, ◌≤◌, anything, All, Wrote, those, spares_bytes}
use Rattle.ubi_compose.proofs.writer.put_spares.Given as goal

abbrev pub invariant-loop : goal.invariant-loop
invariant-loop g l = record {
  wrote : Wrote anything (g.W.Write.contents l.fn.writer) (g.W.Write.contents l.writer)
      (those (spares_bytes l.device l.counter)) All l.done l.total;
  few : l.total ≤ l.done + l.counter * l.device.geometry.peb_size;
}
