use Rattle.ubi_detect.proofs.OneImage.{one_found, one_image}
use Rattle.ubi_detect.proofs.laws.one_image.Goals as goal

pub returns-clause-headers : goal.returns-clause-headers
returns-clause-headers c = one_image

pub returns-clause-file : goal.returns-clause-file
returns-clause-file c = one_found
