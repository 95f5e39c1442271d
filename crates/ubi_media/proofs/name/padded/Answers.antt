use Rattle.ubi_media.proofs.Names.{over_zeros}
use Rattle.ubi_media.proofs.name.padded.Goals as goal

pub returns : goal.returns
returns c = rw c.put.ensures (over_zeros 128 c.args.name.now)
