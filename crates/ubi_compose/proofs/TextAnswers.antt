-- What a text comes to: one meaning, or one cause for which its volumes have none.
use Rattle.ubi_compose.proofs.Prelude.{◌≡◌, ℕ, List, sym, ap, ◌∙◌, Result, Ok, Err, Sizes, Meant, MeaningCause, one_first, ComesTo}

pub one_answer : (s : Sizes) (seq : ℕ) (text : List ℕ) (a b : Result Meant MeaningCause) → ComesTo s seq text a
    → ComesTo s seq text b → a ≡ b
one_answer s seq text (Ok m) (Ok n) p q = ap (λ (k : Meant). Ok k) (p.2 ∙ sym q.2)
one_answer s seq text (Ok m) (Err d) p q = absurd (p.1 d q.1.stands)
one_answer s seq text (Err c) (Ok n) p q = absurd (q.1 c p.1.stands)
one_answer s seq text (Err c) (Err d) p q = ap (λ (k : MeaningCause). Err k) (one_first s _ c d p.1 q.1)
