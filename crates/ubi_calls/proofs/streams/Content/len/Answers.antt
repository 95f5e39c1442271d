use Rattle.ubi_calls.proofs.streams.Content.len.Goals as goal

pub returns-in-Volume : goal.returns-in-Volume
returns-in-Volume c = rw c.in-Volume.is c.volume_len.ensures

pub returns-in-Normal : goal.returns-in-Normal
returns-in-Normal c = rw c.in-Normal.is c.normal_len.ensures
