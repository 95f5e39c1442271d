use Rattle.ubi_laid.proofs.AllVolumes.{all_apart}
use Rattle.ubi_laid.proofs.laws.all_apart.Goals as goal

pub returns : goal.returns
returns c = all_apart
