use Rattle.ubi_volume.proofs.LesserPage.{lesser_page}
use Rattle.ubi_volume.proofs.laws.lesser_page.Goals as goal

pub returns : goal.returns
returns c = lesser_page
