use Rattle.ubi_change.proofs.change.steps_on.Goals as goal

pub returns-in-Mapped : goal.returns-in-Mapped
returns-in-Mapped c = rw c.in-Mapped.is c.mapped_steps.ensures

pub returns-in-Unmapped : goal.returns-in-Unmapped
returns-in-Unmapped c = rw c.in-Unmapped.is c.unmapped_steps.ensures
