use Rattle.ubi_change.proofs.TornPlan.{plan_survives_tears_law}
use Rattle.ubi_change.proofs.laws.plan_survives_tears.Goals as goal

pub returns : goal.returns
returns c = plan_survives_tears_law
