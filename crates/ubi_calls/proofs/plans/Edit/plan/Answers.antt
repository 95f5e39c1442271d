use Rattle.ubi_calls.proofs.plans.Edit.plan.Goals as goal

pub returns-in-Change : goal.returns-in-Change
returns-in-Change c = rw c.in-Change.is c.plan_change.ensures

pub returns-in-Rename : goal.returns-in-Rename
returns-in-Rename c = rw c.in-Rename.is c.plan_rename.ensures

pub returns-in-Update : goal.returns-in-Update
returns-in-Update c = rw c.in-Update.is c.plan_update.ensures
