use Rattle.ubi_change.proofs.CommitKept.{commit_avoiding}
use Rattle.ubi_change.proofs.laws.commit_avoiding.Goals as goal

pub returns : goal.returns
returns c = commit_avoiding
