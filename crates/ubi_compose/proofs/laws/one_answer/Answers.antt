use Rattle.ubi_compose.proofs.TextAnswers.{one_answer}
use Rattle.ubi_compose.proofs.laws.one_answer.Goals as goal

pub returns : goal.returns
returns c = one_answer
