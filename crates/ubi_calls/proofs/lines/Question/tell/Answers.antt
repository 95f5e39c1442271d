use Rattle.ubi_calls.proofs.Prelude.{Under, printed, answers}
use Rattle.ubi_calls.proofs.ToldOutcomes.{fills}
use Rattle.ubi_calls.proofs.lines.Question.tell.Goals as goal

pub returns : goal.returns
returns c =
    fills (Under c.args.sizes.now (λ s. printed (answers c.args.self s))) c.answer_under.result c.answer_under.ensures c.hand_outcome.ensures
