use Rattle.ubi_reading.proofs.Prelude.{IfOk-weaker, ap, ◌∙◌, its_own, printed, Err}
use Rattle.ubi_reading.proofs.format.told_in.Goals as goal

pub returns-in-Ok : goal.returns-in-Ok
returns-in-Ok c = its_own c.in-Ok.is

pub returns-in-Err-Told : goal.returns-in-Err-Told
returns-in-Err-Told c =
    IfOk-weaker c.plain_in.result _ _ (λ o h. printed c.in-Err-Told.plain (c.in-Err-Told.is ∙ ap Err c.in-Err-Told.field-0-is) h) c.plain_in.ensures
