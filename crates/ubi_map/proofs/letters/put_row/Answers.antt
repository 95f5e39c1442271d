use Rattle.ubi_map.proofs.Prelude.{arith, common_steps, drop_min, take_min}
use Rattle.ubi_map.proofs.letters.put_row.Goals as goal

pub returns : goal.returns
returns c = grind (arith, common_steps, drop_min, take_min)
