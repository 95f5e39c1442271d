use Rattle.ubi_detect.proofs.OneImage.{one_detection}
use Rattle.ubi_detect.proofs.OneUndetected.{detected_or_not, one_undetected}
use Rattle.ubi_detect.proofs.laws.one_detection.Goals as goal

pub returns : goal.returns
returns c = record { geometries = one_detection; refusal = detected_or_not; cause = one_undetected }
