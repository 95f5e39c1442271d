use Rattle.ubi_media.proofs.KeptLimits.{kept_limits}
use Rattle.ubi_media.proofs.laws.limits_of_geometry.Goals as goal

pub returns : goal.returns
returns c = kept_limits
