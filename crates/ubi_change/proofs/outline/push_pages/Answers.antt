use Rattle.ubi_change.proofs.Prelude.{◌≡◌, ℕ, ◌+◌, ◌-◌, ◌++◌, ◌∷◌, [], List, Step, ap, append_assoc, arith, map, map-append, range_with_len, sym, ◌∙◌, page_lines}
use Rattle.ubi_change.proofs.FirstTakeable.{range_more}
use Rattle.ubi_change.specs.declared.step.Step.TheVariants as step
use Rattle.ubi_change.proofs.outline.push_pages.Goals as goal

pub loop-page-preserved : goal.loop-page-preserved
loop-page-preserved c =
    let before = c.loop-page.invariant in
    let p = c.args.p in
    let first = c.args.first in
    let n = c.loop-page.page - first in
    let line = λ (page : ℕ). step.Program p page [] in
    let here : first + n ≡ c.loop-page.page = (let b = before.0 in omega (arith, b)) in
    let next : c.loop-page.page + 1 - first ≡ n + 1 = (let b = before.0 in omega (arith, b)) in (
      let b = before.0 in omega (arith, b),
      c.in_ok-push_page.ensures
          ∙ ap (λ (xs : List Step). xs ++ step.Program p c.loop-page.page [] ∷ []) before.1
          ∙ append_assoc c.args.steps.now.items (page_lines p first n) (step.Program p c.loop-page.page [] ∷ [])
          ∙ ap (λ (xs : List Step). c.args.steps.now.items ++ xs)
          (ap (λ m. page_lines p first n ++ step.Program p m [] ∷ []) (sym here)
          ∙ sym (map-append line (range_with_len first n) (range_with_len (first + n) 1))
          ∙ ap (map line) (sym (range_more first n 1))
          ∙ ap (page_lines p first) (sym next)),
    )
