use Rattle.ubi_compare.proofs.NothingDiffers.{nothing_differs}
use Rattle.ubi_compare.proofs.laws.nothing_differs.Goals as goal

pub returns : goal.returns
returns c = nothing_differs
