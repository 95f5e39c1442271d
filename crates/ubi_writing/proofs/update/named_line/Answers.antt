use Rattle.ubi_writing.proofs.Prelude.{◌∙◌, ◌++◌, List, ℕ, ap, codes, asked_edits, asked_words}
use Rattle.ubi_writing.proofs.NamedLines.{named}
use Rattle.ubi_writing.proofs.update.named_line.Goals as goal

pub returns : goal.returns
returns g c =
    named (g.C.Display.output c.args.cause.now) c.in_ok-text.text.items (asked_words (asked_edits c.args.asked.now) c.args.i) c.put_word.new.text.items
    c.in_ok-text.ensures
    (c.in_ok-put_word.ensures ∙ ap (λ (xs : List ℕ). xs ++ codes "\n") c.in_ok-put_asked.ensures)
