use Rattle.ubi_compare.proofs.Prelude.{◌∙◌, sym}
use Rattle.ubi_compare.proofs.NoDifferences.{is_empty, is_none}
use Rattle.ubi_compare.proofs.NothingDiffers.{nothing_differs}
use Rattle.ubi_compare.proofs.compare.same_surveyed.Goals as goal

pub returns-clause-answer : goal.returns-clause-answer
returns-clause-answer g c = λ x xs y ys h k.
    let left = h.attached.accepted.accepted.means in
    let right = k.attached.accepted.accepted.means in
    let law = nothing_differs h.meaning k.meaning left.meaning right.meaning (left.sizes ∙ sym right.sizes) in
    let told = c.in_ok-found.ensures.told x xs y ys h k in (
      λ t. law.0 (told.0 (is_none c.in_ok-found.found.items (rw c.as_slice.ensures.value at (sym c.is_empty.ensures ∙ t)))),
      λ same. c.is_empty.ensures ∙ is_empty c.as_slice.result.now (c.as_slice.ensures.value ∙ told.1 (law.1 same)),
    )
