use Rattle.ubi_dumps.proofs.Prelude.{arith, common_steps, layout_words}
use Rattle.ubi_dumps.proofs.lines.put_layout.Goals as goal

pub returns : goal.returns
unfolding layout_words
returns c = grind (arith, common_steps)
