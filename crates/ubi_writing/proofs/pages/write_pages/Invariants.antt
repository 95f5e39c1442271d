use Rattle.ubi_writing.proofs.Prelude.{Appends, programmed, take}
use Rattle.ubi_writing.proofs.pages.write_pages.Given as goal

abbrev pub invariant-loop-step : goal.invariant-loop-step
invariant-loop-step g l =
    Appends (g.W.Write.contents l.fn.writer) (g.W.Write.contents l.writer) (programmed (take l.step-index l.steps))
