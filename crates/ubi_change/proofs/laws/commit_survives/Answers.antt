use Rattle.ubi_change.proofs.CommitSurvives.{commit_survives}
use Rattle.ubi_change.proofs.laws.commit_survives.Goals as goal

pub returns : goal.returns
returns c = commit_survives
