use Rattle.ubi_commands.proofs.Prelude.{◌≡◌, take, app_of, with_commands}
use Rattle.ubi_commands.proofs.command_line.with_commands.Given as goal

abbrev pub invariant-loop-row : goal.invariant-loop-row
invariant-loop-row l = app_of l.tool ≡ with_commands (app_of l.initial.tool) (take l.row-index l.rows)
