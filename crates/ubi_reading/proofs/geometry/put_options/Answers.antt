use Rattle.ubi_reading.proofs.Prelude.{arith, common_steps, options}
use Rattle.ubi_reading.proofs.geometry.put_options.Goals as goal

pub returns : goal.returns
unfolding options
returns c = grind (arith, common_steps)
