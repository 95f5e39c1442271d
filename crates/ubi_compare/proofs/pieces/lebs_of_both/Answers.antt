use Rattle.ubi_compare.proofs.pieces.lebs_of_both.Goals as goal

pub returns-clause-lebs : goal.returns-clause-lebs
returns-clause-lebs g c = λ x xs y ys. (
  rw c.in-Ok-Some.field-0-is at (c.in-Ok-Some.ensures.lebs x xs),
  rw c.in-Ok-Some-text_lebs_from.field-0-is at (c.in-Ok-Some-text_lebs_from.ensures.lebs y ys),
)
