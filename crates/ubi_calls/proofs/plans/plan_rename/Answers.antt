use Rattle.ubi_calls.proofs.Edited.{rename_planned}
use Rattle.ubi_calls.proofs.plans.plan_rename.Goals as goal

pub returns : goal.returns
returns c =
    rename_planned c.args.geometry.now c.args.image.now c.new-source.result c.run_rename_from-work.new.source c.run_rename_from-work.new.pages.items
    c.new-source.ensures c.run_rename_from-work.ensures.narrows _ _ c.args.avoided.now c.requires.blank
    c.run_rename_from-work.result c.outcome_of.result c.outcome_of.ensures
    c.args.id c.args.word.now c.run_rename_from-work.ensures.ok
