use Rattle.ubi_writing.proofs.Prelude.{err_from_is_err_and, sym, ◌∙◌}
use Rattle.ubi_writing.specs.Contents as contents
use Rattle.ubi_writing.proofs.config_volumes.open_volume.Goals as goal

pub returns-in_err-path-clause-unread : goal.returns-in_err-path-clause-unread
returns-in_err-path-clause-unread g c =
    let from = err_from_is_err_and c.from_residual.result c.from_residual.ensures.1 in
    rw (from.1, from.2) (c.in_err-path.ensures.unread (g.D.Disk.files c.args.disk.now) c.args.numbers)

pub returns-in_ok-config_line-in-Err-clause-unread : goal.returns-in_ok-config_line-in-Err-clause-unread
returns-in_ok-config_line-in-Err-clause-unread g c =
    let named = c.as_str.ensures.value ∙ c.in_ok-path.ensures.path in
    contents.no_record c.in_ok-len.len _ c.in-Err.cause (c.in_ok-len.ensures.image c.args.config.now named)
    (rw c.requires at (sym c.record.ensures.value ∙ c.in-Err.is)) c.in_ok-config_line-in-Err.ensures
