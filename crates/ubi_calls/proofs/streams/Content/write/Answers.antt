use Rattle.ubi_calls.proofs.streams.Content.write.Goals as goal

pub returns-in-Volume-clause-err : goal.returns-in-Volume-clause-err
returns-in-Volume-clause-err g c = rw c.in-Volume.is c.write_volume.ensures.err

pub returns-in-Normal-clause-err : goal.returns-in-Normal-clause-err
returns-in-Normal-clause-err g c = rw c.in-Normal.is c.write_normal.ensures.err
