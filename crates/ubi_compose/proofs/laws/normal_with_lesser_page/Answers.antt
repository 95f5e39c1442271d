use Rattle.ubi_compose.proofs.LesserPage.{normal_with_lesser_page}
use Rattle.ubi_compose.proofs.laws.normal_with_lesser_page.Goals as goal

pub returns : goal.returns
returns c = normal_with_lesser_page
