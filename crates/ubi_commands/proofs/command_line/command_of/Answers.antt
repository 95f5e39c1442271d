use Rattle.ubi_commands.proofs.Prelude.{◌∙◌, ap, take_all, app_of_fields, new_app, with_groups, command_row}
use Rattle.ubi_commands.proofs.CommandNames.{group_more}
use Rattle.ubi_commands.proofs.command_line.command_of.Goals as goal

pub loop-arguments-init : goal.loop-arguments-init
unfolding with_groups
loop-arguments-init c = ap app_of_fields c.about-command.ensures ∙ c.new.ensures.app

pub loop-arguments-preserved : goal.loop-arguments-preserved
loop-arguments-preserved c =
    group_more _ _ _ c.args.row.now.arguments.now c.loop-arguments.arguments-index _ c.loop-arguments-test.true
    c.in_ok-command.ensures c.loop-arguments.invariant

pub returns : goal.returns
unfolding command_row
returns c =
    c.loop-arguments.invariant
    ∙ ap (with_groups (new_app c.args.row.now.name.now)) (take_all _ _ c.loop-arguments-test.false)
