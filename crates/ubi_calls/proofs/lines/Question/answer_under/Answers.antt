use Rattle.ubi_calls.proofs.Prelude.{printed, answers}
use Rattle.ubi_calls.proofs.ToldOutcomes.{allowed, limited, prints}
use Rattle.ubi_calls.proofs.lines.Question.answer_under.Goals as goal

pub returns-in-Ok : goal.returns-in-Ok
returns-in-Ok c =
    allowed c.args.sizes.now (λ s. printed (answers c.args.self s)) c.in-Ok.geometry c.answer.result c.in-Ok.ensures
    (prints (answers c.args.self c.in-Ok.geometry) c.answer.result c.answer.ensures)

pub returns-in-Err : goal.returns-in-Err
returns-in-Err c =
    limited c.args.sizes.now (λ s. printed (answers c.args.self s)) c.in-Err.limit c.limit_outcome.result c.in-Err.ensures c.limit_outcome.ensures
