use Rattle.ubi_reading.proofs.Prelude.{◌∙◌, sym, true≢false, err_from_is_err_and, IfOk-weaker, Tells-weaker, alike, no_left, no_right, unlike, tells_less}
use Rattle.ubi_reading.proofs.comparison.compare_both.Goals as goal

pub returns-in_err-here-clause-unread : goal.returns-in_err-here-clause-unread
returns-in_err-here-clause-unread g c =
    let p = err_from_is_err_and c.from_residual.result c.from_residual.ensures.1 in
    rw (p.1, p.2) (Tells-weaker _ _ (λ o h. no_left h) _ c.in_err-here.ensures.untold)

pub returns-in_err-there-clause-unread : goal.returns-in_err-there-clause-unread
returns-in_err-there-clause-unread g c =
    let p = err_from_is_err_and c.from_residual-in_err-there.result c.from_residual-in_err-there.ensures.1 in
    rw (p.1, p.2) (Tells-weaker _ _ (λ o h. no_right c.in_ok-here.here.dump c.in_ok-here.ensures.dump h) _ c.in_err-there.ensures.untold)

pub returns-then-not-are_alike-clause-unread : goal.returns-then-not-are_alike-clause-unread
returns-then-not-are_alike-clause-unread g c =
    Tells-weaker _ _
    (λ o h. unlike c.in_ok-here.here.dump c.in_ok-there.there.dump c.in_ok-here.ensures.dump c.in_ok-there.ensures.dump
    (λ is. true≢false (sym (c.are_alike.ensures.1 is) ∙ c.if-not-are_alike.true)) h)
    c.unlike.result c.unlike.ensures

pub returns-clause-answer : goal.returns-clause-answer
returns-clause-answer g c =
    IfOk-weaker c.compare_dumps.result _ _
    (λ o h. (
      c.in_ok-here.here.dump,
      c.in_ok-there.there.dump,
      c.in_ok-here.ensures.dump,
      c.in_ok-there.ensures.dump,
      c.are_alike.ensures.0 c.if-not-are_alike.false,
      h,
    ))
    c.compare_dumps.ensures.answer

pub returns-clause-unread : goal.returns-clause-unread
returns-clause-unread g c =
    tells_less c.compare_dumps.result _ _
    (λ o h. alike c.in_ok-here.here.dump c.in_ok-there.there.dump c.in_ok-here.ensures.dump c.in_ok-there.ensures.dump
    (c.are_alike.ensures.0 c.if-not-are_alike.false) h)
    c.compare_dumps.ensures.unread
