use Rattle.ubi_volume.proofs.OneAttached.{one_attached}
use Rattle.ubi_volume.proofs.laws.one_attached.Goals as goal

pub returns : goal.returns
returns c = one_attached
