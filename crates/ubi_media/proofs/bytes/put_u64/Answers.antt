use Rattle.ubi_media.proofs.Prelude.{◌≡◌, ◌+◌, ◌-◌, refl, arith, big_bytes}
use Rattle.ubi_media.proofs.Writes.{put_is}
use Rattle.ubi_media.proofs.bytes.put_u64.Goals as goal

pub returns : goal.returns
returns c =
    let count : c.args.at + 8 - c.args.at ≡ 8 = omega arith in
    rw (c.write_u64.ensures, count) (put_is c.args.at 8 (big_bytes 8 c.args.n) c.args.bytes.now refl c.requires)
