use Rattle.ubi_calls.proofs.Prelude.{ap, sym, ◌∙◌, drop, drop-drop}
use Rattle.ubi_calls.proofs.buffer.FillingWrite.write.Goals as goal

pub invariant_of-self-clause-rest : goal.invariant_of-self-clause-rest
invariant_of-self-clause-rest g c =
    sym (drop-drop c.min-count.result c.args.self.now.filled c.args.self.now.out.now)
    ∙ ap (drop c.min-count.result) c.args.self.now.rest ∙ drop-drop c.min-count.result c.args.self.now.filled g.K.Room.before
