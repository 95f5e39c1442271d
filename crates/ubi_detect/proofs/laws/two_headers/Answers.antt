use Rattle.ubi_detect.proofs.OneImage.{two_headers}
use Rattle.ubi_detect.proofs.laws.two_headers.Goals as goal

pub returns : goal.returns
returns c = two_headers
