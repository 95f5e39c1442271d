use Rattle.ubi_writing.proofs.Prelude.{Tells-weaker, config_line}
use Rattle.ubi_writing.proofs.AskedVolumes.{faulty_line}
use Rattle.ubi_writing.proofs.all_asked.sections_of.Goals as goal

pub returns-in-Err-Refused-clause-refused : goal.returns-in-Err-Refused-clause-refused
returns-in-Err-Refused-clause-refused c =
    let n = c.in-Err-Refused.line in
    let cause = c.in-Err-Refused.cause in
    let fault = rw c.in-Err-Refused.field-0-is at c.in-Err-Refused.ensures.refused in
    Tells-weaker _ _ (faulty_line c.args.text.now n cause fault) _ (c.telling.ensures (config_line n cause) c.config_line.ensures)
