use Rattle.ubi_detect.proofs.Detectable.{detected_or_refused}
use Rattle.ubi_detect.proofs.laws.detected_or_refused.Goals as goal

pub returns : goal.returns
returns c = detected_or_refused
