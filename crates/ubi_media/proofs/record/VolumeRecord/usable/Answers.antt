use Rattle.ubi_media.proofs.Prelude.{arith}
use Rattle.ubi_media.proofs.Records.{usable_some}
use Rattle.ubi_media.proofs.record.VolumeRecord.usable.Goals as goal

pub returns-clause-some : goal.returns-clause-some
returns-clause-some c =
    omega (
      arith,
      usable_some c.args.geometry.now c.args.self.now c.requires,
      c.leb_size.ensures.value,
      c.data_pad.ensures,
    )
