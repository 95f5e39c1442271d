use Rattle.ubi_change.proofs.PlanSurvives.{plan_survives_law}
use Rattle.ubi_change.proofs.laws.plan_survives.Goals as goal

pub returns : goal.returns
returns c = plan_survives_law
