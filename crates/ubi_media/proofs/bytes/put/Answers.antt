use Rattle.ubi_media.proofs.Prelude.{◌≡◌, ◌+◌, ◌-◌, length, arith}
use Rattle.ubi_media.proofs.Writes.{put_all}
use Rattle.ubi_media.proofs.bytes.put.Goals as goal

pub returns : goal.returns
returns c =
    let count : length c.args.part.now ≡ c.args.at + length c.args.part.now - c.args.at = omega arith in
    rw c.copy_from_slice.ensures.after (put_all c.args.at _ c.args.part.now c.args.bytes.now count)
