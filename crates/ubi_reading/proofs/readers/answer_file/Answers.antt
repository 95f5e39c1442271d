use Rattle.ubi_reading.proofs.Prelude.{err_from_is_err_and, no_file, of_dump, refl, Tells-weaker, untold, IfOk-weaker, tells_less}
use Rattle.ubi_reading.proofs.readers.answer_file.Goals as goal

pub returns-in_err-known-clause-unread : goal.returns-in_err-known-clause-unread
returns-in_err-known-clause-unread g c =
    let p = err_from_is_err_and c.from_residual.result c.from_residual.ensures.1 in
    rw (p.1, p.2) (Tells-weaker _ _ (λ o h. untold h (λ path. refl)) _ c.in_err-known.ensures.untold)

pub returns-clause-answer : goal.returns-clause-answer
returns-clause-answer g c =
    IfOk-weaker c.answer_dump.result _ _ (λ o h. (c.in_ok-known.known.dump, c.in_ok-known.ensures.dump, h)) c.answer_dump.ensures.answer

pub returns-clause-unread : goal.returns-clause-unread
returns-clause-unread g c =
    tells_less c.answer_dump.result _ _ (λ o h. of_dump c.in_ok-known.known.dump c.in_ok-known.ensures.dump (no_file h))
    c.answer_dump.ensures.unread
