use Rattle.ubi_volume.proofs.Prelude.{blocks_in, IsReadFault}
use Rattle.ubi_scan.specs.declared.errors.StreamError.TheVariants as stream
use Rattle.ubi_volume.proofs.Received.{wrote_first}
use Rattle.ubi_volume.proofs.extract.write_leb.Goals as goal

pub returns-in-Err-Read-clause-failed : goal.returns-in-Err-Read-clause-failed
returns-in-Err-Read-clause-failed g c =
    let failed : IsReadFault (blocks_in c.args.geometry.now (g.S.BlockSource.known c.args.source.now)) (stream.Read c.in-Err-Read.p _) =
    rw c.in-Err-Read.field-0-is at c.in-Err-Read.ensures.failed in
    (failed.0, wrote_first (g.S.BlockSource.known c.args.source.now) _ _ _ c.args.done)
