use Rattle.ubi_compose.proofs.Room.{normal_fits}
use Rattle.ubi_compose.proofs.laws.normal_fits.Goals as goal

pub returns : goal.returns
returns c = normal_fits
