use Rattle.ubi_calls.proofs.Prelude.{spared_plan}
use Rattle.ubi_calls.proofs.Edited.{allowed_plan, limited_plan}
use Rattle.ubi_calls.proofs.plans.Edit.plan_under.Goals as goal

pub returns-in-Ok : goal.returns-in-Ok
returns-in-Ok c =
    allowed_plan c.args.sizes.now (λ pages s. spared_plan c.args.self.now c.args.spared.now s c.args.image.now pages) c.plan_sparing.new.pages.items
    c.in-Ok.geometry c.plan_sparing.result c.in-Ok.ensures c.plan_sparing.ensures

pub returns-in-Err : goal.returns-in-Err
returns-in-Err c =
    limited_plan c.args.sizes.now (λ pages s. spared_plan c.args.self.now c.args.spared.now s c.args.image.now pages) c.args.pages.now.items c.in-Err.limit
    c.limit_outcome.result c.in-Err.ensures c.limit_outcome.ensures
