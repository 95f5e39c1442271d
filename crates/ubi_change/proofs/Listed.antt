-- What a look through the steps shows: that none works on a listed eraseblock, or that one does, which is so in no
-- plan.
use Rattle.ubi_change.proofs.Prelude.{◌∙◌, ℕ, List, ap, sym, true≢false, Sizes, Avoided, Avoids, is_listed, Step, ListedIs}
use Rattle.std.proofs.Common.{Some}

pub never_listed : (s : Sizes) (bs : List (List ℕ)) (av : Avoided) (steps : List Step) (p : ℕ) → Avoids s bs av steps
    → ListedIs av.marks steps (Some p) → ⊥
never_listed s bs av steps p avoids l =
    absurd (true≢false (sym l.4 ∙ ap (is_listed av.marks) (sym l.3) ∙ (avoids l.0 l.1 l.2).0))
