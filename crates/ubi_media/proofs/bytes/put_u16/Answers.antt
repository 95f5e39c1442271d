use Rattle.ubi_media.proofs.Prelude.{◌≡◌, ◌+◌, ◌-◌, refl, arith, big_bytes}
use Rattle.ubi_media.proofs.Writes.{put_is}
use Rattle.ubi_media.proofs.bytes.put_u16.Goals as goal

pub returns : goal.returns
returns c =
    let count : c.args.at + 2 - c.args.at ≡ 2 = omega arith in
    rw (c.write_u16.ensures, count) (put_is c.args.at 2 (big_bytes 2 c.args.n) c.args.bytes.now refl c.requires)
