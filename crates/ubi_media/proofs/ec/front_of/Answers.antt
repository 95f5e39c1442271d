use Rattle.ubi_media.proofs.Writes.{ec_assembled}
use Rattle.ubi_media.proofs.ec.front_of.Goals as goal

pub returns-clause-bytes : goal.returns-clause-bytes
returns-clause-bytes c =
    rw (
      c.put_u32-4.ensures,
      c.put_u32-3.ensures,
      c.put_u32-2.ensures,
      c.put_u64.ensures,
      c.put_u32.ensures,
      c.vid_offset.ensures.value,
      c.data_offset.ensures.value,
      c.from.ensures,
    )
    (ec_assembled c.args.geometry.now (record { counter = c.args.counter; image_seq = c.args.image_seq }))
