use Rattle.ubi_json.proofs.OneLine.{text_wide}
use Rattle.ubi_json.proofs.laws.one_line.Goals as goal

pub returns : goal.returns
returns c = text_wide
