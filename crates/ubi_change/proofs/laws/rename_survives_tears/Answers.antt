use Rattle.ubi_change.proofs.TornPlan.{rename_survives_tears_law}
use Rattle.ubi_change.proofs.laws.rename_survives_tears.Goals as goal

pub returns : goal.returns
returns c = rename_survives_tears_law
