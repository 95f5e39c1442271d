use Rattle.ubi_laid.proofs.AllVolumes.{each_can_be_laid}
use Rattle.ubi_laid.proofs.laws.each_can_be_laid.Goals as goal

pub returns : goal.returns
returns c = each_can_be_laid
