use Rattle.ubi_media.proofs.Prelude.{arith}
use Rattle.ubi_media.proofs.Lookups.{check_from-elements}
use Rattle.ubi_media.proofs.check.with_eight.Goals as goal

pub returns : goal.returns
returns c =
    rw (c.found.ensures, c.found-2.ensures, c.found-3.ensures, c.found-4.ensures, c.found-5.ensures, c.found-6.ensures, c.found-7.ensures, c.found-8.ensures)
    (check_from-elements 8 c.args.state c.args.eight.now _ (omega arith)
    (omega arith) c.ranges.state.fits c.told-eight c.fits-eight
    c.to_le_bytes.ensures)
