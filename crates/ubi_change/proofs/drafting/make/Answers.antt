use Rattle.ubi_change.proofs.drafting.make.Goals as goal

pub returns-in-Resize-clause-fault : goal.returns-in-Resize-clause-fault
returns-in-Resize-clause-fault c = rw (c.in-Resize.is) c.resize.ensures.fault

pub returns-in-Replace-clause-fault : goal.returns-in-Replace-clause-fault
returns-in-Replace-clause-fault c = λ used tells. rw (c.in-Replace.is) c.replace.ensures.fault
