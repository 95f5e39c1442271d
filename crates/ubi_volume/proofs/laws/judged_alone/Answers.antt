use Rattle.ubi_volume.proofs.Judged.{judged_alone}
use Rattle.ubi_volume.proofs.laws.judged_alone.Goals as goal

pub returns : goal.returns
returns c = judged_alone
