use Rattle.ubi_media.proofs.Checks.{check_from-cut}
use Rattle.ubi_media.proofs.check.with_short.Goals as goal

pub returns : goal.returns
returns c =
    check_from-cut c.args.state 16 _ c.args.bytes.now _ _ _ _ c.ranges.state.fits c.as_chunks.ensures.front
    c.as_chunks.ensures.back c.with_sixteens.ensures c.with_rest.ensures
