use Rattle.ubi_calls.proofs.Wanted.{normal_unwritten, normal_written}
use Rattle.ubi_calls.proofs.streams.write_normal.Goals as goal

pub returns-clause-ok : goal.returns-clause-ok
returns-clause-ok g c =
    normal_written c.args.geometry.now c.args.image.now c.new-source.result c.run_normalise.new.source c.new-source.ensures
    c.run_normalise.ensures.narrows _ _ c.run_normalise.result c.run_normalise.ensures.image

pub returns-clause-err : goal.returns-clause-err
returns-clause-err g c =
    normal_unwritten c.args.geometry.now c.args.image.now c.new-source.result c.run_normalise.new.source c.new-source.ensures
    c.run_normalise.ensures.narrows _ _ c.run_normalise.result c.run_normalise.ensures.known c.run_normalise.ensures.err
