use Rattle.ubi_writing.proofs.Prelude.{◌≡◌, ◌∙◌, ℕ, List, Step, subst, sym, take, IfErr, IfOk, Agreed, Source, All, Wrote, after_text, image_of, in_order, plan_groups, steps_done, AreCut, ArePlanned, ArePlannedSteps, AreEditsOf, Edit, IsUpdateError, IsUpdateFault, IsWriteFault, UpdatesFrom, made_steps, pages_made, refl, groups_beside, groups_within, asked_edits}
use Rattle.ubi_writing.proofs.Cut.{is_cut}
use Rattle.ubi_writing.proofs.PlannedAll.{held_firsts, held_pages, lines_planned, steps_planned}
use Rattle.ubi_writing.proofs.Updated.{no_edits_told, planned_later, refused_told, update_cut, update_done}
use Rattle.ubi_writing.proofs.update.run_update_from.Given as given
use Rattle.ubi_writing.proofs.update.run_update_from.Goals as goal

pub returns-in-Err-Told-clause-ok : goal.returns-in-Err-Told-clause-ok
returns-in-Err-Told-clause-ok g c bytes held =
    no_edits_told c.args.avoided.now (asked_edits c.args.asked.now) bytes c.args.stop c.args.geometry.now
    (g.S.BlockSource.known c.args.source.now) (g.S.BlockSource.agrees c.edits_from.new.source) _
    (g.W.Write.contents c.args.writer.now) c.saying.result c.in-Err-Told.line
    (rw c.in-Err-Told.field-0-is at c.in-Err-Told.ensures.refused) (rw c.in-Err-Told.field-0-is at c.saying.ensures)

pub returns-in-Err-clause-ok : goal.returns-in-Err-clause-ok
returns-in-Err-clause-ok g c bytes held =
    let s = c.args.geometry.now in
    let now = g.S.BlockSource.agrees c.plan_update_from.new.source in
    let agreed = g.T.BlockSource.agrees c.plan_update_from.new.contents in
    let size = (g.T.BlockSource.known c.args.pages.now.contents).size in
    let at = g.T.BlockSource.failed_at c.plan_update_from.new.contents in
    let es = c.as_slice-edits.result.now in
    refused_told c.args.avoided.now (asked_edits c.args.asked.now) bytes c.args.stop s (g.S.BlockSource.known c.args.source.now) now agreed size at es held
    ((g.met.T.BlockSource.sized c.args.pages.now.contents).sized bytes (c.in-Err.ensures.narrows_contents bytes held)) _ _ c.in-Err.error
    (λ image agrees. subst (λ (xs : List Edit). AreEditsOf (image_of s image) (asked_edits c.args.asked.now) xs) (sym c.as_slice-edits.ensures.value)
    (c.in-Ok.ensures.edits image (c.in-Err.ensures.narrows image agrees)))
    (subst (λ (k : Source). IsUpdateError s k now size at agreed c.args.avoided.now es c.in-Err.error) c.in-Ok.ensures.known c.in-Err.ensures.refused)
    c.unplanned.result c.unplanned.ensures.ok

module _ (g : given.Over) (c : goal.After-drop-edits-2 g) (bytes : List ℕ)
    (held : g.T.BlockSource.agrees c.write_planned.new.pages.contents bytes) where
  -- the contents agree with what was read of them before
  held_then : g.T.BlockSource.agrees c.hold_plan.new.pages.contents bytes
  held_then = c.write_planned.ensures.agrees bytes held

  held_first : g.T.BlockSource.agrees c.plan_update_from.new.contents bytes
  held_first = rw c.in_ok-text.ensures.contents at held_then

  abbrev steps : List Step
  steps = in_order (plan_groups c.args.geometry.now c.in-Ok-plan_update_from.plan bytes)

  abbrev known : Source
  known = g.S.BlockSource.known c.args.source.now

  abbrev agrees : Agreed
  agrees = g.S.BlockSource.agrees c.write_planned.new.source

  known_then : g.S.BlockSource.known c.plan_update_from.new.source ≡ known
  known_then = c.in-Ok-plan_update_from.ensures.known ∙ c.in-Ok.ensures.known

  -- the steps are those that are planned for what is asked
  planned_steps : ArePlannedSteps c.args.geometry.now known agrees c.args.avoided.now bytes c.as_slice-edits.result.now steps
  planned_steps =
      let s = c.args.geometry.now in
      let av = c.args.avoided.now in
      let es = c.as_slice-edits.result.now in
      let before = g.S.BlockSource.agrees c.plan_update_from.new.source in
      let plan = c.in-Ok-plan_update_from.ensures in
      let p = c.in-Ok-plan_update_from.plan in
      planned_later av (asked_edits c.args.asked.now) bytes c.args.stop s known before agrees es steps c.write_planned.ensures.narrows
      (subst (λ (k : Source). ArePlannedSteps s k before av bytes es steps) c.in-Ok.ensures.known
      (steps_planned s (g.S.BlockSource.known c.edits_from.new.source) before (g.T.BlockSource.agrees c.plan_update_from.new.contents) av bytes es
      p plan.plan held_first plan.source steps refl (groups_within s _ p plan.fits bytes (plan.laid bytes held_first))
      (groups_beside s p bytes av.marks plan.beside)))

  planned : ArePlanned c.args.avoided.now (asked_edits c.args.asked.now) bytes c.args.geometry.now known agrees c.as_slice-edits.result.now steps
  planned = record {
    asked = λ image held. subst (λ (xs : List Edit). AreEditsOf (image_of c.args.geometry.now image) (asked_edits c.args.asked.now) xs) (sym c.as_slice-edits.ensures.value)
        (c.in-Ok.ensures.edits image (c.in-Ok-plan_update_from.ensures.narrows image (c.write_planned.ensures.narrows image held)));
    plan = planned_steps;
  }

  cut : AreCut c.args.geometry.now agrees steps (steps_done steps c.args.stop)
  cut image held =
      is_cut c.args.geometry.now c.in-Ok-plan_update_from.ensures.fits.sound image known.size planned_steps.whole
      ((g.met.S.BlockSource.sized c.args.source.now).sized image
      (c.in-Ok.ensures.narrows image (c.in-Ok-plan_update_from.ensures.narrows image (c.write_planned.ensures.narrows image held))))
      steps planned_steps.within (steps_done steps c.args.stop)

  abbrev firsts : List Step
  firsts = take (steps_done steps c.args.stop) steps

  made_firsts : made_steps c.hold_plan.new.pages.made bytes ≡ firsts
  made_firsts = held_firsts _ _ _ _ _ _ _ c.in_ok-text.ensures.held bytes held_then

  answered : IfOk c.write_planned.result (UpdatesFrom c.args.avoided.now (asked_edits c.args.asked.now) bytes c.args.stop c.args.geometry.now known agrees
      (pages_made c.write_planned.new.pages.made bytes) (g.W.Write.contents c.args.writer.now) (g.W.Write.contents c.write_planned.new.writer))
  answered =
      let s = c.args.geometry.now in
      let plan = c.in-Ok-plan_update_from.ensures in
      let old = g.W.Write.contents c.args.writer.now in
      let now = g.W.Write.contents c.write_planned.new.writer in
      update_done c.args.avoided.now (asked_edits c.args.asked.now) bytes c.args.stop s known agrees c.as_slice-edits.result.now steps planned
      c.in_ok-lines.lines.items
      (λ image held. lines_planned s (g.S.BlockSource.known c.edits_from.new.source) (g.S.BlockSource.agrees c.plan_update_from.new.source)
      (g.T.BlockSource.agrees c.plan_update_from.new.contents) c.args.avoided.now bytes c.as_slice-edits.result.now c.in-Ok-plan_update_from.plan plan.plan
      held_first c.in_ok-lines.lines.items c.in_ok-lines.ensures image (c.write_planned.ensures.narrows image held))
      c.write_planned.result (pages_made c.write_planned.new.pages.made bytes) old now c.in_ok-text.text.items
      (c.in_ok-text.ensures.held.said bytes held_then) c.write_planned.ensures.answer
      (held_pages _ _ _ _ _ _ _ c.in_ok-text.ensures.held bytes held_then c.write_planned.new.pages.made _ _ _ c.write_planned.ensures.ready
      c.write_planned.ensures.same) cut
      (subst (λ (k : Source). IfOk c.write_planned.result (λ _. Wrote agrees old now (after_text s firsts) All 0 k.size)) known_then
      (subst (λ (xs : List Step). IfOk c.write_planned.result (λ _. Wrote agrees old now (after_text s xs) All 0 (g.S.BlockSource.known c.plan_update_from.new.source).size))
      made_firsts (c.write_planned.ensures.written bytes held)))

  failed : IfErr c.write_planned.result (IsUpdateFault c.args.avoided.now (asked_edits c.args.asked.now) bytes c.args.stop c.args.geometry.now known agrees
      (g.W.Write.contents c.args.writer.now) (g.W.Write.contents c.write_planned.new.writer))
  failed =
      let s = c.args.geometry.now in
      let old = g.W.Write.contents c.args.writer.now in
      let now = g.W.Write.contents c.write_planned.new.writer in
      update_cut c.args.avoided.now (asked_edits c.args.asked.now) bytes c.args.stop s known agrees c.as_slice-edits.result.now steps planned c.write_planned.result old now
      (subst (λ (xs : List Step). IfErr c.write_planned.result (IsWriteFault agrees (after_text s xs) old now)) made_firsts
      (c.write_planned.ensures.err bytes held))

pub returns-clause-ok : goal.returns-clause-ok
returns-clause-ok g c bytes held = answered g c bytes held

pub returns-clause-err : goal.returns-clause-err
returns-clause-err g c bytes held = failed g c bytes held
