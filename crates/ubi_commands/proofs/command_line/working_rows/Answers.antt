use Rattle.ubi_commands.proofs.Prelude.{refl, tool, telling_tool, command_row, with_commands, with_groups, with_rows}
use Rattle.ubi_commands.proofs.command_line.working_rows.Goals as goal

pub returns : goal.returns
unfolding tool telling_tool with_commands command_row with_groups with_rows
returns c = refl
