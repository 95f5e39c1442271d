use Rattle.ubi_change.proofs.Carried.{pages_carry}
use Rattle.ubi_change.proofs.laws.pages_carry.Goals as goal

pub returns : goal.returns
returns c = pages_carry
