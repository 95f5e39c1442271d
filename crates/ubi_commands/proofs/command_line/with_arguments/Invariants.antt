use Rattle.ubi_commands.proofs.Prelude.{◌≡◌, take, app_of, with_rows}
use Rattle.ubi_commands.proofs.command_line.with_arguments.Given as goal

abbrev pub invariant-loop-argument : goal.invariant-loop-argument
invariant-loop-argument l =
    app_of l.command ≡ with_rows (app_of l.initial.command) (take l.argument-index l.arguments)
