use Rattle.ubi_compose.proofs.Prelude.{sym, ◌∙◌, arith}
use Rattle.ubi_compose.proofs.Hexadecimal.{flags_two, no_flags}
use Rattle.ubi_compose.proofs.line.flags_of.Goals as goal

pub returns : goal.returns
returns c = let f = flags_two c.args.word.now (omega arith) in c.byte_of.ensures ∙ sym f

pub returns-then-word-ne2 : goal.returns-then-word-ne2
returns-then-word-ne2 c = sym (no_flags c.args.word.now (λ h. omega arith))
