use Rattle.ubi_config.proofs.Prelude.{◌++◌, ◌∙◌, ap, append-nil, codes, List, sym, ℕ, decimal, left_out_words}
use Rattle.ubi_config.proofs.Texts.{then_more}
use Rattle.ubi_config.proofs.written.put_remark.Goals as goal

pub returns : goal.returns
returns c =
    let number = rw c.from.ensures at c.in_ok-put_number.ensures in
    let words = rw c.words.ensures at c.in_ok-put_word-2.ensures in
    let a : List ℕ = codes "\n# volume " ++ decimal c.args.volume.now.id in
    let b : List ℕ = codes " is left out: " in
    let d : List ℕ = left_out_words c.args.why in
    then_more _ _ _ (a ++ b ++ d) (codes "\n")
    (then_more _ _ _ (a ++ b) d (then_more _ _ _ a b number c.in_ok-put_word.ensures) words) c.in_ok-put_word-3.ensures
    ∙ ap (λ t. c.args.text.now.items ++ t) (sym (append-nil (a ++ b ++ d ++ codes "\n")))
