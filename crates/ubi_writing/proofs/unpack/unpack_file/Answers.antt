use Rattle.ubi_writing.proofs.Prelude.{refl, IfOk-weaker, of_dump, untold, told}
use Rattle.ubi_writing.proofs.unpack.unpack_file.Goals as goal

pub returns-in-Ok-clause-answer : goal.returns-in-Ok-clause-answer
returns-in-Ok-clause-answer g c =
    IfOk-weaker c.unpack_dump.result _ _ (λ o h. of_dump c.in-Ok.known.dump c.in-Ok.ensures.dump h) c.unpack_dump.ensures.answer

pub returns-in-Err-clause-answer : goal.returns-in-Err-clause-answer
returns-in-Err-clause-answer g c =
    IfOk-weaker c.answer.result _ _ (λ o h. untold h (λ path. refl))
    (told _ c.in-Err.unread c.answer.result c.in-Err.ensures.untold c.answer.ensures)
