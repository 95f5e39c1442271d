use Rattle.ubi_media.proofs.RecordBytes.{rec_assembled}
use Rattle.ubi_media.proofs.record.front_of.Goals as goal

pub returns : goal.returns
returns c =
    rw (
      c.put.ensures,
      c.put_u16.ensures,
      c.put_u32-3.ensures,
      c.put_u32-2.ensures,
      c.put_u32.ensures,
      c.fields_from-fields.ensures.value,
    )
    (rec_assembled c.args.geometry.now c.args.volume.now c.requires)
