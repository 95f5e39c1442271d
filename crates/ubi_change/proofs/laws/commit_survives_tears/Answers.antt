use Rattle.ubi_change.proofs.CommitKept.{commit_survives_tears}
use Rattle.ubi_change.proofs.laws.commit_survives_tears.Goals as goal

pub returns : goal.returns
returns c = commit_survives_tears
