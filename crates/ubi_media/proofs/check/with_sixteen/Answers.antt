use Rattle.ubi_media.proofs.Prelude.{arith}
use Rattle.ubi_media.proofs.Lookups.{check_from-elements}
use Rattle.ubi_media.proofs.check.with_sixteen.Goals as goal

pub returns : goal.returns
returns c =
    rw (c.found.ensures, c.found-2.ensures, c.found-3.ensures, c.found-4.ensures, c.found-5.ensures, c.found-6.ensures, c.found-7.ensures, c.found-8.ensures, c.found-9.ensures, c.found-10.ensures, c.found-11.ensures, c.found-12.ensures, c.found-13.ensures, c.found-14.ensures, c.found-15.ensures, c.found-16.ensures)
    (check_from-elements 16 c.args.state c.args.sixteen.now _ (omega arith)
    (omega arith) c.ranges.state.fits c.told-sixteen c.fits-sixteen
    c.to_le_bytes.ensures)
