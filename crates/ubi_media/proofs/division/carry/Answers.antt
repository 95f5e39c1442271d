use Rattle.ubi_media.proofs.Pieces.{carries-on}
use Rattle.ubi_media.proofs.division.carry.Goals as goal

pub returns : goal.returns
returns c state carries =
    carries-on c.args.piece.now _ c.args.quotient.now _ _ state c.told-piece c.fits-piece c.as_chunks.ensures.front
    c.fits-quotient c.divide.array_long c.divide.ensures c.copy_within.ensures.by_index.0 carries
