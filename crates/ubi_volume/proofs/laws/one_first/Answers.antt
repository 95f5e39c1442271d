use Rattle.ubi_volume.proofs.FirstCause.{one_first}
use Rattle.ubi_volume.proofs.laws.one_first.Goals as goal

pub returns : goal.returns
returns c = one_first
