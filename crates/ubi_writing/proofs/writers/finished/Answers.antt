use Rattle.ubi_writing.proofs.Prelude.{ap, refl, is_some, unopened, is_open}
use Rattle.ubi_dumps.specs.Ended.{done}
use Rattle.ubi_writing.proofs.writers.finished.Goals as goal

pub returns-then-outcome-ne-DONE-clause-answer : goal.returns-then-outcome-ne-DONE-clause-answer
returns-then-outcome-ne-DONE-clause-answer g c = λ unread. done refl (λ zero. absurd (c.if-outcome-ne-DONE.true zero))

pub returns-in-Ok-clause-answer : goal.returns-in-Ok-clause-answer
returns-in-Ok-clause-answer g c = λ unread. done refl (λ zero. is_open c.finish.new.self.file c.in-Ok.ensures.opened)

pub returns-in-Err-clause-answer : goal.returns-in-Err-clause-answer
returns-in-Err-clause-answer g c = λ unread. unopened c.args.outcome refl c.if-outcome-ne-DONE.false
    (ap is_some c.in-Err.ensures.unopened)
