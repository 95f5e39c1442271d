use Rattle.ubi_change.proofs.Prelude.{holds, memory, still, image_of, PlanFactsOfSource, PlanFacts, nothing}
use Rattle.ubi_change.proofs.NothingAvoided.{frugal_nothing, plan_nothing}
use Rattle.ubi_change.proofs.Unplanned.{error_in_memory}
use Rattle.ubi_change.proofs.change.plan_change.Goals as goal

-- what was planned over the bytes is the plan of the image
planned : (c : goal.In-Ok) → PlanFacts (image_of c.args.geometry.now c.args.image.now) nothing c.args.id c.args.lnum c.args.new.now c.in-Ok.steps.items
planned c =
    let image = c.args.image.now in
    let left = c.plan_change_from.new.source in
    let is : PlanFactsOfSource c.args.geometry.now (memory image) (holds left) nothing c.args.id c.args.lnum c.args.new.now c.in-Ok.steps.items =
    rw (c.new.ensures, c.nothing.ensures) at c.in-Ok.ensures.plan in
    is.held image (still image left (rw c.new.ensures at c.in-Ok.ensures.narrows))

pub returns-in-Ok-clause-survives : goal.returns-in-Ok-clause-survives
returns-in-Ok-clause-survives c = (planned c).survives

pub returns-in-Ok-clause-torn : goal.returns-in-Ok-clause-torn
returns-in-Ok-clause-torn c = (planned c).torn

pub returns-in-Ok-clause-fits : goal.returns-in-Ok-clause-fits
returns-in-Ok-clause-fits c = (planned c).fits

pub returns-in-Ok-clause-rises : goal.returns-in-Ok-clause-rises
returns-in-Ok-clause-rises c = (planned c).rises

pub returns-in-Ok-clause-frugal : goal.returns-in-Ok-clause-frugal
returns-in-Ok-clause-frugal c = frugal_nothing (image_of c.args.geometry.now c.args.image.now) c.args.id c.args.lnum c.args.new.now c.in-Ok.steps.items
    (planned c).frugal

pub returns-in-Ok-clause-plan : goal.returns-in-Ok-clause-plan
returns-in-Ok-clause-plan c = plan_nothing (image_of c.args.geometry.now c.args.image.now) c.args.id c.args.lnum c.args.new.now c.in-Ok.steps.items
    (planned c).plan

pub returns-in-Err-Refused-clause-refused : goal.returns-in-Err-Refused-clause-refused
returns-in-Err-Refused-clause-refused c =
    error_in_memory c.args.geometry.now c.args.image.now c.new.result c.plan_change_from.new.source c.new.ensures
    c.in-Err-Refused.ensures.narrows c.args.id c.args.lnum c.args.new.now _ c.in-Err-Refused.cause c.in-Err-Refused.field-0-is
    (rw c.nothing.ensures at c.in-Err-Refused.ensures.refused)
