use Rattle.ubi_writing.proofs.Edited.{change_in_memory}
use Rattle.ubi_writing.proofs.change.run_change.Goals as goal

pub returns : goal.returns
returns c =
    change_in_memory c.args.id c.args.lnum c.args.new.now c.args.stop c.args.geometry.now c.args.image.now c.new-source.result
    c.run_change_from-work.new.source c.run_change_from-work.new.pages.items c.new-file.result.items c.run_change_from-work.new.writer.items c.new-source.ensures
    c.run_change_from-work.ensures.narrows c.new-file.ensures.items c.run_change_from-work.result c.with_file.result
    (rw c.nothing-nothing.ensures at c.run_change_from-work.ensures.ok) c.with_file.ensures
