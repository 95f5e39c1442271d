use Rattle.ubi_change.proofs.Prelude.{◌≡◌, List, [], ◌∷◌, ◌∙◌, subst, sym, AllBeside, err_from_is_err_and, holds, still, image_of, AllWithin, Narrows, length, IsUpdateFor, IsUpdateError, StopsIfRenames, UpdateError, Edit}
use Rattle.ubi_change.specs.declared.edit.Edit.TheVariants as edit
use Rattle.ubi_change.proofs.PlanGroups.{groups_beside}
use Rattle.ubi_change.proofs.RenameStopped.{stopped_is}
use Rattle.ubi_change.proofs.RenameUpdated.{rename_facts}
use Rattle.ubi_change.proofs.rename.steps_of.Goals as goal

pub returns-in_err-plan-clause-refused : goal.returns-in_err-plan-clause-refused
returns-in_err-plan-clause-refused g c =
    let s = c.args.geometry.now in
    let known = g.S.BlockSource.known c.args.source.now in
    let agrees = g.S.BlockSource.agrees c.plan_update_from.new.source in
    let left = c.plan_update_from.new.contents in
    let e : UpdateError = c.in_err-plan.field-0.0 in
    let es : c.as_slice.result.now ≡ edit.Rename c.args.id c.args.name.now ∷ [] = c.as_slice.ensures.value ∙ c.in_ok-edits.ensures in
    let from = err_from_is_err_and c.from_residual-in_err-plan.result c.from_residual-in_err-plan.ensures.1 in
    let held = still [] left (rw c.new-contents.ensures at c.in_err-plan.ensures.narrows_contents) in
    rw (from.1, from.2)
    (stopped_is s known agrees (length c.new-contents.result) 0 (holds left) c.args.avoided.now c.args.id c.args.name.now held e
    (subst (λ (es : List Edit). StopsIfRenames es e) es c.in_err-plan.ensures.renames)
    (subst (λ (es : List Edit). IsUpdateError s known agrees (length c.new-contents.result) 0 (holds left) c.args.avoided.now es e) es c.in_err-plan.ensures.refused))

pub returns-in-Ok-clause-plan : goal.returns-in-Ok-clause-plan
returns-in-Ok-clause-plan g c =
    let s = c.args.geometry.now in
    let av = c.args.avoided.now in
    let planned = c.in_ok-plan.ensures in
    let made = c.in-Ok.ensures in
    let steps = c.in-Ok.steps.items in
    let es : c.as_slice.result.now ≡ edit.Rename c.args.id c.args.name.now ∷ [] = c.as_slice.ensures.value ∙ c.in_ok-edits.ensures in
    let first = still [] c.plan_update_from.new.contents (rw c.new-contents.ensures at planned.narrows_contents) in
    let both : Narrows (holds c.new-contents.result) (holds c.steps.new.contents) =
    λ bytes held. planned.narrows_contents bytes (made.narrows bytes held) in
    let last = still [] c.steps.new.contents (rw c.new-contents.ensures at both) in
    record {
      whole = planned.source.whole;
      within = subst (λ n. AllWithin s n steps) planned.source.count made.within;
      beside = subst (AllBeside av.marks) (sym (made.steps [] last)) (groups_beside s c.in_ok-plan.plan [] av.marks planned.beside);
      held = λ bytes holding. rename_facts (image_of s bytes) av c.args.id c.args.name.now [] c.in_ok-plan.plan
          (subst (λ (es : List Edit). IsUpdateFor (image_of s bytes) av [] es c.in_ok-plan.plan) es (planned.plan bytes holding [] first)) steps
          (made.steps [] last) planned.fits.bytes;
    }
