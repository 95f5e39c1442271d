use Rattle.ubi_writing.proofs.Prelude.{Tells-weaker, cannot_read}
use Rattle.ubi_writing.proofs.contents.open_contents.Goals as goal

pub returns-then-is_spent-clause-unread : goal.returns-then-is_spent-clause-unread
returns-then-is_spent-clause-unread g c =
    Tells-weaker _ _ (λ o h. cannot_read c.in_ok-file.ensures.read.limits h) _ c.unread_file.ensures.line
