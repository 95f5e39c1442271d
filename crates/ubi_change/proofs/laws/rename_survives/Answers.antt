use Rattle.ubi_change.proofs.RenameSurvives.{rename_law}
use Rattle.ubi_change.proofs.laws.rename_survives.Goals as goal

pub returns : goal.returns
returns c = rename_law
