use Rattle.ubi_files.proofs.Prelude.{cannot_read, unreadable}
use Rattle.ubi_files.proofs.Tells.{Tells-weaker}
use Rattle.ubi_files.proofs.whole_dump.see_kept.Goals as goal

pub returns-in-None-clause-unread : goal.returns-in-None-clause-unread
returns-in-None-clause-unread c = λ d part.
    Tells-weaker _ _ (λ o h. unreadable (cannot_read c.args.frame.now.limits h)) c.unread_file.result c.unread_file.ensures.line
