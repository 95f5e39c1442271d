use Rattle.ubi_reading.proofs.Prelude.{arith, common_steps, sizes_line}
use Rattle.ubi_reading.proofs.list.put_sizes.Goals as goal

pub returns : goal.returns
unfolding sizes_line
returns c = grind (arith, common_steps)
