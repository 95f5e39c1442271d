use Rattle.ubi_media.proofs.Checks.{check_from-cut}
use Rattle.ubi_media.proofs.check.crc_more.Goals as goal

pub returns : goal.returns
returns c =
    check_from-cut c.args.state 12288 _ c.args.message.now _ _ _ _ c.ranges.state.fits c.as_chunks.ensures.front
    c.as_chunks.ensures.back c.with_pieces.ensures c.with_short-2.ensures
