use Rattle.ubi_media.proofs.Pieces.{check_from-last}
use Rattle.ubi_media.proofs.division.with_last.Goals as goal

pub returns : goal.returns
returns c state carries =
    check_from-last c.args.piece.now _ c.args.quotient.now _ _ _ _ state _ c.told-piece c.fits-piece
    c.as_chunks.ensures.front c.fits-quotient c.clear_end.ensures.same c.clear_end.ensures.clear c.divide.ensures
    c.remainder_of-remainder.ensures c.as_flattened.ensures.value c.with_short.ensures carries
