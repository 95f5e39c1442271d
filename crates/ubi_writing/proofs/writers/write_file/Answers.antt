use Rattle.ubi_writing.proofs.Prelude.{[], refl, IfOk-weaker, of_dump, untold, told}
use Rattle.ubi_writing.proofs.writers.write_file.Goals as goal

pub returns-in-Ok-clause-answer : goal.returns-in-Ok-clause-answer
returns-in-Ok-clause-answer g c =
    IfOk-weaker c.write_dump.result _ _ (λ o h. (h.0, of_dump c.in-Ok.known.dump c.in-Ok.ensures.dump h.1)) c.write_dump.ensures.answer

pub returns-in-Err-clause-answer : goal.returns-in-Err-clause-answer
returns-in-Err-clause-answer g c =
    IfOk-weaker c.answer.result _ _ (λ o h. ([], untold h (λ path. refl)))
    (told _ c.in-Err.unread c.answer.result c.in-Err.ensures.untold c.answer.ensures)
