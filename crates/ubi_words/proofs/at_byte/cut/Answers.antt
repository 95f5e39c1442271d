use Rattle.std.proofs.Common.{◌==◌, sym}
use Rattle.ubi_words.proofs.Cuts.{cut_at, cut_nowhere}
use Rattle.ubi_words.proofs.at_byte.cut.Goals as goal

pub returns-in-Some-clause-pieces : goal.returns-in-Some-clause-pieces
returns-in-Some-clause-pieces c =
    cut_at (λ b. b == c.args.at) c.args.text.now c.in-Some.place (sym c.in-Some.ensures.value)

pub returns-in-None-clause-pieces : goal.returns-in-None-clause-pieces
returns-in-None-clause-pieces c = cut_nowhere (λ b. b == c.args.at) c.args.text.now (sym c.in-None.ensures.value)
