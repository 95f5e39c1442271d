use Rattle.ubi_writing.proofs.Prelude.{after_error, after_outcome}
use Rattle.ubi_writing.proofs.writers.ended.Goals as goal

pub returns-in-Ok-clause-answer : goal.returns-in-Ok-clause-answer
returns-in-Ok-clause-answer g c =
    after_outcome c.args.answer _ c.in-Ok.outcome _ _ _ c.in-Ok.is (c.finished.ensures.answer _)

pub returns-in-Err-clause-answer : goal.returns-in-Err-clause-answer
returns-in-Err-clause-answer g c = after_error c.args.answer _ c.in-Err.error _ _ c.failed.result c.in-Err.is c.failed.ensures
