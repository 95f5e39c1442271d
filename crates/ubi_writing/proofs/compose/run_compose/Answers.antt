use Rattle.ubi_writing.proofs.Prelude.{IfOk-weaker, unmade, unread}
use Rattle.ubi_writing.specs.Compose.{described}
use Rattle.ubi_writing.proofs.compose.run_compose.Goals as goal

pub returns-in-Err-Refused : goal.returns-in-Err-Refused
returns-in-Err-Refused c =
    unread c.in-Err-Refused.line c.in-Err-Refused.cause
    (rw c.in-Err-Refused.field-0-is at c.in-Err-Refused.ensures.refused)
    (rw c.in_ok-spec_line-in-Err-Refused.ensures at c.saying.ensures)

pub returns-in_ok-meaning_line-in-Err : goal.returns-in_ok-meaning_line-in-Err
returns-in_ok-meaning_line-in-Err c =
    let read = c.in-Ok.ensures.volumes in
    unmade c.in-Err.error.cause (read.0, rw read.1 at c.in-Err.ensures.cause)
    (rw c.in_ok-meaning_line-in-Err.ensures at c.saying-in-Err.ensures)

pub returns-in-Ok-new : goal.returns-in-Ok-new
returns-in-Ok-new c =
    let read = c.in-Ok.ensures.volumes in
    let made = rw read.1 at c.in-Ok-new.ensures.made in
    IfOk-weaker c.compose_meaning.result _ _
    (λ o h. described c.in-Ok-new.meaning (read.0, made.0, made.1) h)
    c.compose_meaning.ensures
