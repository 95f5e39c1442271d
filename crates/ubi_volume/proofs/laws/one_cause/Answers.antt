use Rattle.ubi_volume.proofs.OneCause.{one_cause}
use Rattle.ubi_volume.proofs.laws.one_cause.Goals as goal

pub returns : goal.returns
returns c = one_cause
