use Rattle.ubi_writing.proofs.Prelude.{refl, not_replaced, replaced, undone}
use Rattle.ubi_writing.proofs.writers.replaced.Goals as goal

pub returns-then-outcome-ne-DONE-clause-answer : goal.returns-then-outcome-ne-DONE-clause-answer
returns-then-outcome-ne-DONE-clause-answer g c = undone c.if-outcome-ne-DONE.true refl

pub returns-in-Ok-clause-answer : goal.returns-in-Ok-clause-answer
returns-in-Ok-clause-answer g c = replaced c.if-outcome-ne-DONE.false c.in-Ok.ensures.received

pub returns-in-Err-clause-answer : goal.returns-in-Err-clause-answer
returns-in-Err-clause-answer g c = not_replaced c.if-outcome-ne-DONE.false c.in-Err.ensures.kept
