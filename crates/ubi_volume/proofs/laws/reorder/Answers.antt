use Rattle.ubi_volume.proofs.MeaningReordered.{reorder}
use Rattle.ubi_volume.proofs.laws.reorder.Goals as goal

pub returns : goal.returns
returns c = reorder
