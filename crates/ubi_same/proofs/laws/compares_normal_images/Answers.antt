use Rattle.ubi_same.proofs.SameImages.{is_same}
use Rattle.ubi_same.proofs.laws.compares_normal_images.Goals as goal

pub returns : goal.returns
returns c = is_same
