use Rattle.ubi_change.proofs.TearsCover.{tears_cover}
use Rattle.ubi_change.proofs.laws.tears_cover.Goals as goal

pub returns : goal.returns
returns c = tears_cover
