use Rattle.ubi_detect.proofs.OwnGeometry.{geometry_of_image, out_of_band_of_image}
use Rattle.ubi_detect.proofs.laws.geometry_of_image.Goals as goal

pub returns-clause-plain : goal.returns-clause-plain
returns-clause-plain c = geometry_of_image

pub returns-clause-out_of_band : goal.returns-clause-out_of_band
returns-clause-out_of_band c = out_of_band_of_image
