use Rattle.ubi_calls.proofs.Prelude.{IfOk-weaker}
use Rattle.ubi_calls.specs.Edits as edits
use Rattle.ubi_calls.proofs.plans.plan_update.Goals as goal

pub returns-in-Err-Line : goal.returns-in-Err-Line
returns-in-Err-Line c =
    IfOk-weaker c.wrong_outcome.result _ _
    (λ o says. edits.no_text c.in-Err-Line.number (rw c.in-Err-Line.field-0-is at c.in-Err-Line.ensures.refused) says.text says.status)
    c.wrong_outcome.ensures
