use Rattle.ubi_reading.proofs.Prelude.{◌≡◌, ◌∙◌, ◌↔◌, Bool, List, false, inl, inr, refl, subst, sym, true, IsTrue, Meant, Difference, Gives, says, Outcome, AnswersOf, are_none, comparison_status, differences_told, same_told, Comparison, Format, false≢true}
use Rattle.ubi_reading.specs.declared.comparison.Comparison.TheVariants as comparison
use Rattle.ubi_reading.proofs.comparison.Comparison.compare.Goals as goal

same_answers : (format : Format) (answer : Bool) (m n : Meant) (o : Outcome) → IsTrue answer ↔ (m ≡ n)
    → Gives o (says (same_told format answer) (comparison_status answer)) → AnswersOf (comparison.Same format) m n o
same_answers format true m n o is gives = inl (is.0 refl, gives)
same_answers format false m n o is gives = inr (λ same. false≢true (is.1 same), gives)

pub returns-in_ok-same_outcome-in-Same-clause-images : goal.returns-in_ok-same_outcome-in-Same-clause-images
returns-in_ok-same_outcome-in-Same-clause-images g c = λ x xs y ys.
    let o = c.in_ok-same_outcome-in-Same in
    let is = c.in_ok-is_same-in-Same.ensures.answer x xs y ys in (
      is.left,
      is.right,
      is.left_means,
      is.right_means,
      subst (λ (how : Comparison). AnswersOf how is.left is.right o.field-0) (sym c.in-Same.is)
          (same_answers c.in-Same.format c.in_ok-is_same-in-Same.is_same is.left is.right o.field-0 is.meanings o.ensures),
    )

pub returns-in_ok-diff_outcome-in-Diff-clause-images : goal.returns-in_ok-diff_outcome-in-Diff-clause-images
returns-in_ok-diff_outcome-in-Diff-clause-images g c = λ x xs y ys.
    let o = c.in_ok-diff_outcome-in-Diff in
    let is = c.in_ok-told-in-Diff.ensures.told x xs y ys in (
      is.left,
      is.right,
      is.left_means,
      is.right_means,
      subst (λ (how : Comparison). AnswersOf how is.left is.right o.field-0) (sym c.in-Diff.is)
          (subst (λ (ds : List Difference). Gives o.field-0 (says (differences_told c.in-Diff.format ds) (comparison_status (are_none ds))))
          (c.as_slice.ensures.value ∙ is.differences) o.ensures),
    )
