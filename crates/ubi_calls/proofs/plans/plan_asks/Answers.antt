use Rattle.ubi_calls.proofs.Prelude.{◌≡◌, ◌++◌, ◌∙◌, ap, sym, List, ℕ, false, true, same_Some, pages_made, Made}
use Rattle.ubi_calls.proofs.Updated.{on_done, update_planned}
use Rattle.ubi_calls.proofs.plans.plan_asks.Goals as goal

pub returns : goal.returns
returns c text asked =
    let s = c.args.geometry.now in
    let contents = c.args.contents.now in
    let work = c.run_update_from-work in
    let given = c.of-made.ensures.contents ∙ c.new.ensures in
    let planned = same_Some _ _ work.ensures.contents.held ∙ given in
    let written = same_Some _ _ c.write_to.ensures.contents.held ∙ planned in
    let pages = on_done c.write_to.result _ c.write_to.ensures.written c.if-is_err.ensures.value contents (sym written) in
    let made =
    pages ∙ ap (λ (xs : List ℕ). xs ++ pages_made c.write_to.new.self.made contents) c.requires.empty
    ∙ ap (λ (m : Made). pages_made m contents) c.write_to.ensures.made in
    update_planned s c.args.image.now c.new-source.result work.new.source c.write_to.new.writer.items c.new-source.ensures work.ensures.narrows
    _ _ c.args.avoided.now c.requires.blank c.args.asks.now text contents asked c.in_ok-outcome.outcome
    (λ path says. let bad : false ≡ true = sym c.if-is_unread.false ∙ c.is_unread.ensures path (c.as_slice.ensures.value ∙ says) in cc)
    work.result c.outcome_of.result c.in_ok-outcome.was c.outcome_of.ensures _ (sym made) (work.ensures.ok contents (sym planned))
