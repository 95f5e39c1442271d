use Rattle.ubi_reading.proofs.Prelude.{IfOk-weaker}
use Rattle.ubi_reading.proofs.check.check_told.Goals as goal

pub returns-in-Json : goal.returns-in-Json
returns-in-Json c = rw c.in-Json.is (IfOk-weaker c.check_line.result _ _ (λ line h. h.text) c.check_line.ensures)
