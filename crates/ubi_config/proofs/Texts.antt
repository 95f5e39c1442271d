-- The text of lines, in order.
use Rattle.ubi_config.proofs.Prelude.{◌≡◌, ℕ, List, [], ◌∷◌, ◌++◌, ap, append_assoc, refl, sym, ◌∙◌, ended, text_of}

-- the text of lines, and of more that follow
pub text_of-append : (ls ms : List (List ℕ)) → text_of (ls ++ ms) ≡ text_of ls ++ text_of ms
text_of-append [] ms = refl
text_of-append (l ∷ ls) ms =
    ap (λ t. ended l ++ t) (text_of-append ls ms) ∙ sym (append_assoc (ended l) (text_of ls) (text_of ms))

-- a text to which more was added twice
pub then_more : (t u v : List ℕ) (a b : List ℕ) → u ≡ t ++ a → v ≡ u ++ b → v ≡ t ++ (a ++ b)
then_more t u v a b first second = second ∙ ap (λ w. w ++ b) first ∙ append_assoc t a b

-- a text to which lines were added twice
pub then_lines : (t u v : List ℕ) (ls ms : List (List ℕ)) → u ≡ t ++ text_of ls → v ≡ u ++ text_of ms
    → v ≡ t ++ text_of (ls ++ ms)
then_lines t u v ls ms first second =
    then_more t u v (text_of ls) (text_of ms) first second ∙ ap (λ w. t ++ w) (sym (text_of-append ls ms))
