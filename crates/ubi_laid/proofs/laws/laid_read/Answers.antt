use Rattle.ubi_laid.proofs.Contents.{laid_read}
use Rattle.ubi_laid.proofs.laws.laid_read.Goals as goal

pub returns : goal.returns
returns c = laid_read
