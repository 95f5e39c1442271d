use Rattle.ubi_calls.proofs.Edited.{change_planned}
use Rattle.ubi_calls.proofs.plans.plan_change.Goals as goal

pub returns : goal.returns
returns c =
    let new = c.args.new.now in
    change_planned c.args.geometry.now c.args.image.now c.new-source.result c.run_change_from-work.new.source c.run_change_from-work.new.pages.items
    c.new-source.ensures c.run_change_from-work.ensures.narrows _ _ c.args.avoided.now c.requires.blank
    c.run_change_from-work.result c.outcome_of.result c.outcome_of.ensures
    new.id new.lnum new.bytes.now c.run_change_from-work.ensures.ok
