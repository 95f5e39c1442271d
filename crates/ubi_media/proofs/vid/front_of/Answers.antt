use Rattle.ubi_media.proofs.Writes.{vid_assembled}
use Rattle.ubi_media.proofs.vid.front_of.Goals as goal

pub returns : goal.returns
returns c =
    rw (
      c.put_u64.ensures,
      c.put_u32-7.ensures,
      c.put_u32-6.ensures,
      c.put_u32-5.ensures,
      c.put_u32-4.ensures,
      c.put_u32-3.ensures,
      c.put_u32-2.ensures,
      c.put_u32.ensures,
    ) (vid_assembled c.args.fields)
