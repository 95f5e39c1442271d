use Rattle.ubi_files.proofs.Prelude.{◌∙◌, ap, option_map, viewed, unfit}
use Rattle.ubi_files.proofs.Tells.{Tells-weaker}
use Rattle.ubi_files.proofs.SeenBytes.{fits, has_len}
use Rattle.ubi_files.proofs.open_image.at_places.Goals as goal

pub returns-in-Ok-clause-opened : goal.returns-in-Ok-clause-opened
returns-in-Ok-clause-opened g c d path same =
    let dump = c.args.frame.now.dump in
    let file = c.args.file in (
      c.in-Ok.ensures.geometry,
      c.args.frame.now.limits,
      (c.in-Ok.ensures.unread, c.in-Ok.ensures.held ∙ ap (option_map (viewed dump)) same),
      fits d dump path (g.F.PlacedFile.bytes file.file) file.len same file.sized c.in-Ok.ensures.fits,
    )

pub returns-in-Err-clause-unread : goal.returns-in-Err-clause-unread
returns-in-Err-clause-unread g c d path same =
    let dump = c.args.frame.now.dump in
    let file = c.args.file in
    Tells-weaker _ _
    (λ o h. unfit file.len c.in-Err.misfit c.args.frame.now.limits
    (has_len d dump path (g.F.PlacedFile.bytes file.file) file.len same file.sized) c.in-Err.ensures.fits h)
    c.unseen.result c.unseen.ensures
