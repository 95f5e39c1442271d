use Rattle.ubi_files.proofs.Prelude.{cannot_read, unreadable}
use Rattle.ubi_files.proofs.Tells.{Tells-weaker}
use Rattle.ubi_files.proofs.whole_dump.load_seen.Goals as goal

pub returns-in-Err-clause-unread : goal.returns-in-Err-clause-unread
returns-in-Err-clause-unread g c =
    Tells-weaker _ _ (λ o h. unreadable (cannot_read c.args.frame.now.limits h)) c.unread_file.result c.unread_file.ensures.line
