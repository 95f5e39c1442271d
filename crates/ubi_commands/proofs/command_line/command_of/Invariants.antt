use Rattle.ubi_commands.proofs.Prelude.{◌≡◌, take, app_of, new_app, with_groups}
use Rattle.ubi_commands.proofs.command_line.command_of.Given as goal

abbrev pub invariant-loop-arguments : goal.invariant-loop-arguments
invariant-loop-arguments l =
    app_of l.command ≡ with_groups (new_app l.row.name.now) (take l.arguments-index l.arguments-items)
