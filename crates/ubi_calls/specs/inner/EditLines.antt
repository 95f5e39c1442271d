-- Why the lines of a text ask for no edits.
use Rattle.std.specs.Prelude.{ℕ, List}
use Rattle.ubi_calls.specs.EditLines.{IsWrongLine}
use Rattle.ubi_calls.specs.declared.edit_lines.NoEdits.{NoEdits}
use Rattle.ubi_calls.specs.declared.edit_lines.NoEdits.TheVariants as no_edits

-- a line is wrong, or memory ran out
abbrev pub IsNoEdits : List ℕ → ℕ → NoEdits → Type 0
IsNoEdits text size (no_edits.Line n) = IsWrongLine text size n
IsNoEdits text size no_edits.Memory = Unit {0}
