use Rattle.ubi_writing.proofs.Edited.{rename_in_memory}
use Rattle.ubi_writing.proofs.rename.run_rename.Goals as goal

pub returns : goal.returns
returns c =
    rename_in_memory c.args.id c.args.word.now c.args.stop c.args.geometry.now c.args.image.now c.new-source.result
    c.run_rename_from-work.new.source c.run_rename_from-work.new.pages.items c.new-file.result.items c.run_rename_from-work.new.writer.items c.new-source.ensures
    c.run_rename_from-work.ensures.narrows c.new-file.ensures.items c.run_rename_from-work.result c.with_file.result
    (rw c.nothing-nothing.ensures at c.run_rename_from-work.ensures.ok) c.with_file.ensures
