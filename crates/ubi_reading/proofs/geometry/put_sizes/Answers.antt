use Rattle.ubi_reading.proofs.Prelude.{arith, common_steps, sizes_options}
use Rattle.ubi_reading.proofs.geometry.put_sizes.Goals as goal

pub returns : goal.returns
unfolding sizes_options
returns c = grind (arith, common_steps)
