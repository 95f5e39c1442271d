use Rattle.ubi_commands.proofs.Prelude.{◌∙◌, ap, take_all, app_of, with_commands, refl}
use Rattle.ubi_commands.proofs.CommandNames.{command_more}
use Rattle.ubi_commands.proofs.command_line.with_commands.Goals as goal

pub loop-row-init : goal.loop-row-init
unfolding with_commands
loop-row-init c = refl

pub loop-row-preserved : goal.loop-row-preserved
loop-row-preserved c =
    command_more _ _ _ _ c.args.rows.now c.loop-row.row-index _ c.loop-row-test.true c.in_ok-tool.ensures
    c.in_ok-command_of.ensures c.loop-row.invariant

pub returns : goal.returns
returns c =
    c.loop-row.invariant
    ∙ ap (with_commands (app_of c.args.tool)) (take_all _ _ c.loop-row-test.false)
