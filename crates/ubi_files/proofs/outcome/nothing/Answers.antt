use Rattle.ubi_files.proofs.outcome.nothing.Goals as goal

pub returns : goal.returns
returns c = rw c.new.ensures.items at c.saying.ensures
