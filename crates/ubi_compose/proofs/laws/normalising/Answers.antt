use Rattle.ubi_compose.proofs.NormalForm.{normalising}
use Rattle.ubi_compose.proofs.laws.normalising.Goals as goal

pub returns : goal.returns
returns c = normalising
