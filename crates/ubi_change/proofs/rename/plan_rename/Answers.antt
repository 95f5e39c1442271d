use Rattle.ubi_change.proofs.Prelude.{image_of, holds, memory, still, IsPlannedRename, RenameFacts, nothing}
use Rattle.ubi_change.proofs.NothingAvoided.{frugal_rename_nothing, rename_nothing}
use Rattle.ubi_change.proofs.Unrenamed.{error_in_memory}
use Rattle.ubi_change.proofs.rename.plan_rename.Goals as goal

-- what was planned over the bytes is the plan of the image
planned : (c : goal.In-Ok) → RenameFacts (image_of c.args.geometry.now c.args.image.now) nothing c.args.id c.args.name.now c.in-Ok.steps.items
planned c =
    let image = c.args.image.now in
    let left = c.plan_rename_from.new.source in
    let is : IsPlannedRename c.args.geometry.now (memory image) (holds left) nothing c.args.id c.args.name.now c.in-Ok.steps.items =
    rw (c.new.ensures, c.nothing-nothing.ensures) at c.in-Ok.ensures.plan in
    is.held image (still image left (rw c.new.ensures at c.in-Ok.ensures.narrows))

pub returns-in-Ok-clause-survives : goal.returns-in-Ok-clause-survives
returns-in-Ok-clause-survives c = (planned c).survives

pub returns-in-Ok-clause-torn : goal.returns-in-Ok-clause-torn
returns-in-Ok-clause-torn c = (planned c).torn

pub returns-in-Ok-clause-reads : goal.returns-in-Ok-clause-reads
returns-in-Ok-clause-reads c = (planned c).reads

pub returns-in-Ok-clause-copies : goal.returns-in-Ok-clause-copies
returns-in-Ok-clause-copies c = (planned c).copies

pub returns-in-Ok-clause-fits : goal.returns-in-Ok-clause-fits
returns-in-Ok-clause-fits c = (planned c).fits

pub returns-in-Ok-clause-rises : goal.returns-in-Ok-clause-rises
returns-in-Ok-clause-rises c = (planned c).rises

pub returns-in-Ok-clause-frugal : goal.returns-in-Ok-clause-frugal
returns-in-Ok-clause-frugal c = frugal_rename_nothing (image_of c.args.geometry.now c.args.image.now) c.args.id c.args.name.now c.in-Ok.steps.items
    (planned c).frugal

pub returns-in-Ok-clause-plan : goal.returns-in-Ok-clause-plan
returns-in-Ok-clause-plan c = rename_nothing (image_of c.args.geometry.now c.args.image.now) c.args.id c.args.name.now c.in-Ok.steps.items
    (planned c).plan

pub returns-in-Err-Refused-clause-refused : goal.returns-in-Err-Refused-clause-refused
returns-in-Err-Refused-clause-refused c =
    error_in_memory c.args.geometry.now c.args.image.now c.new.result c.plan_rename_from.new.source c.new.ensures
    c.in-Err-Refused.ensures.narrows c.args.id c.args.name.now _ c.in-Err-Refused.cause c.in-Err-Refused.field-0-is
    (rw c.nothing-nothing.ensures at c.in-Err-Refused.ensures.refused)
