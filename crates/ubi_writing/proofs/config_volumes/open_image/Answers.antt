use Rattle.ubi_writing.proofs.Prelude.{Tells-weaker, err_from_is_err_and}
use Rattle.ubi_writing.proofs.ImagedVolumes.{image_unread}
use Rattle.ubi_writing.proofs.config_volumes.open_image.Goals as goal

pub returns-in_err-file-clause-unread : goal.returns-in_err-file-clause-unread
returns-in_err-file-clause-unread g c config named =
    let from = err_from_is_err_and c.from_residual.result c.from_residual.ensures.1 in
    rw (from.1, from.2)
    (Tells-weaker _ _
    (image_unread (g.D.Disk.files c.args.disk.now) c.args.numbers config c.args.section.now c.args.path.now named c.is_none.result c.is_none.ensures c.if-is_none.false)
    _ c.in_err-file.ensures.unread)
