use Rattle.std.proofs.Common.{◌∙◌}
use Rattle.ubi_uses.proofs.table.record_of.Goals as goal

pub returns : goal.returns
returns c = (
  c.in_ok-table.table,
  rw c.in_ok-blocks.ensures.ok at c.in_ok-table.ensures.table,
  c.copied.ensures ∙ c.get.ensures.value,
)
