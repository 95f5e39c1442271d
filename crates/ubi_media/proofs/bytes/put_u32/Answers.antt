use Rattle.ubi_media.proofs.Prelude.{◌≡◌, ◌+◌, ◌-◌, refl, arith, big_bytes}
use Rattle.ubi_media.proofs.Writes.{put_is}
use Rattle.ubi_media.proofs.bytes.put_u32.Goals as goal

pub returns : goal.returns
returns c =
    let count : c.args.at + 4 - c.args.at ≡ 4 = omega arith in
    rw (c.write_u32.ensures, count) (put_is c.args.at 4 (big_bytes 4 c.args.n) c.args.bytes.now refl c.requires)
