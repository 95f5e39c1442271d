use Rattle.ubi_reading.proofs.Prelude.{ap, ◌∙◌, left_failed, right_failed, Tells-weaker, Err}
use Rattle.ubi_reading.proofs.comparison.done_over_sides.Goals as goal

pub returns-in-Left-clause-unread : goal.returns-in-Left-clause-unread
returns-in-Left-clause-unread c =
    Tells-weaker _ _ (λ o h. left_failed (c.in-Err.is ∙ ap Err c.in-Left.is) h) c.unread_file.result c.unread_file.ensures.line

pub returns-in-Right-clause-unread : goal.returns-in-Right-clause-unread
returns-in-Right-clause-unread c =
    Tells-weaker _ _ (λ o h. right_failed (c.in-Err.is ∙ ap Err c.in-Right.is) h) c.unread_file-in-Right.result
    c.unread_file-in-Right.ensures.line
