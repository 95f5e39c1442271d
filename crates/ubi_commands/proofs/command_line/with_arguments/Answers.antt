use Rattle.ubi_commands.proofs.Prelude.{refl, ◌∙◌, ap, sym, take_all, app_of, fold_more, rule, with_rows, App, with_rule, Argument}
use Rattle.ubi_commands.proofs.CommandNames.{argued}
use Rattle.ubi_commands.proofs.command_line.with_arguments.Goals as goal

pub loop-argument-init : goal.loop-argument-init
unfolding with_rows
loop-argument-init c = refl

pub loop-argument-preserved : goal.loop-argument-preserved
unfolding with_rows
loop-argument-preserved c =
    argued _ _ _ _ _ c.in_ok-command.ensures c.arg_of.ensures.global c.arg_of.ensures.rule c.loop-argument.invariant
    ∙ sym (fold_more (λ (x : App) (r : Argument). with_rule x (rule r)) _ c.args.arguments.now c.loop-argument.argument-index _ c.loop-argument-test.true)

pub returns : goal.returns
returns c =
    c.loop-argument.invariant
    ∙ ap (with_rows (app_of c.args.command)) (take_all _ _ c.loop-argument-test.false)
