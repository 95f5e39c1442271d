use Rattle.ubi_compose.proofs.NormalForm.{normal_form}
use Rattle.ubi_compose.proofs.laws.normal_form.Goals as goal

pub returns : goal.returns
returns c = normal_form
