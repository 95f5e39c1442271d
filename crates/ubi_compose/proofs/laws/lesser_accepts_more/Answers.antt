use Rattle.ubi_compose.proofs.GreaterPage.{lesser_accepts_more}
use Rattle.ubi_compose.proofs.laws.lesser_accepts_more.Goals as goal

pub returns : goal.returns
returns c = lesser_accepts_more
