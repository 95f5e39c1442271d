use Rattle.ubi_reading.proofs.Prelude.{IfOk-weaker}
use Rattle.ubi_reading.proofs.MappedLines.{into_page}
use Rattle.ubi_reading.proofs.map.map_file.Goals as goal

pub returns-in_ok-outcome-in-Some-clause-answer : goal.returns-in_ok-outcome-in-Some-clause-answer
returns-in_ok-outcome-in-Some-clause-answer g c =
    rw c.in-Some.is
    (IfOk-weaker c.write_outcome.result _ _
    (λ o written. into_page c.in-Some.path.now (g.D.Disk.files c.args.disk.now) (g.D.Disk.files c.write_outcome.new.disk) _
    c.in_ok-outcome-in-Some.outcome o c.in_ok-outcome-in-Some.ensures written) c.write_outcome.ensures.answer)
