use Rattle.ubi_calls.proofs.Prelude.{image_of}
use Rattle.ubi_calls.proofs.Wanted.{volume_unwritten, volume_written}
use Rattle.ubi_calls.proofs.streams.write_volume.Goals as goal

pub returns-clause-ok : goal.returns-clause-ok
returns-clause-ok g c =
    volume_written (image_of c.args.geometry.now c.args.image.now) _ _ c.args.id c.run_extract.result c.run_extract.ensures.ok

pub returns-clause-err : goal.returns-clause-err
returns-clause-err g c =
    volume_unwritten (image_of c.args.geometry.now c.args.image.now) _ _ c.args.id c.run_extract.result c.run_extract.ensures.err
