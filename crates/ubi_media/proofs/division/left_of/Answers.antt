use Rattle.ubi_media.proofs.Prelude.{add-zero}
use Rattle.ubi_media.proofs.Pieces.{word-and-five}
use Rattle.ubi_media.proofs.division.left_of.Goals as goal

pub returns : goal.returns
returns c =
    rw (← c.from_le_bytes.ensures, add-zero c.args.k) (word-and-five c.from_le_bytes.result _ _ _ _ _)
