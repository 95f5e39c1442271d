use Rattle.ubi_calls.proofs.Wanted.{normal_counted}
use Rattle.ubi_calls.proofs.streams.normal_len.Goals as goal

pub returns-in-Ok : goal.returns-in-Ok
returns-in-Ok c =
    normal_counted c.args.geometry.now c.args.image.now c.new-source.result c.normalise_to.new.source c.new-source.ensures
    c.normalise_to.ensures.narrows _ _ c.in-Ok.count c.in-Ok.ensures.written
