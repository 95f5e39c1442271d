use Rattle.ubi_media.proofs.Prelude.{◌∙◌, sym}
use Rattle.ubi_media.proofs.Checks.{check_from-byte}
use Rattle.ubi_media.proofs.Table.{steps-found}
use Rattle.ubi_media.proofs.check.with_byte.Goals as goal

pub returns : goal.returns
returns c =
    rw c.from.ensures
    (steps-found c.args.state c.args.byte c.ranges.byte.fits
    ∙ sym (check_from-byte c.args.state c.args.byte c.ranges.state.fits c.ranges.byte.fits))
