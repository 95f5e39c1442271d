use Rattle.ubi_writing.proofs.Prelude.{[], ◌∙◌, OfFile-weaker, ◌≡◌, IfOk-weaker, avoided, on_grid, with_list, told, hiding, no_dump}
use Rattle.ubi_writing.proofs.AnyContents.{nothing_held}
use Rattle.ubi_writing.proofs.Planned.{unplanned_any}
use Rattle.ubi_writing.proofs.planners.rename_file.Goals as goal

pub returns-in-Err-clause-answer : goal.returns-in-Err-clause-answer
returns-in-Err-clause-answer g c =
    IfOk-weaker c.answer.result _ _ (unplanned_any _ c.args.dump.now c.args.asked.now.plan.paths.image.now _)
    (told _ c.in-Err.unplanned c.answer.result c.in-Err.ensures.unplanned c.answer.ensures)

pub returns-in-Err-open_plan_image-clause-answer : goal.returns-in-Err-open_plan_image-clause-answer
returns-in-Err-open_plan_image-clause-answer g c =
    IfOk-weaker c.answer-in-Err-open_plan_image.result _ _ (λ o h. with_list (on_grid c.in-Ok.ensures.grid (no_dump h)))
    (told _ c.in-Err-open_plan_image.unread c.answer-in-Err-open_plan_image.result
    (rw c.in-Ok.ensures.dump at c.in-Err-open_plan_image.ensures.unread) c.answer-in-Err-open_plan_image.ensures)

pub returns-clause-answer : goal.returns-clause-answer
returns-clause-answer g c =
    let dump = c.args.dump.now in
    let d = g.D.Disk.files c.args.disk.now in
    let given : c.new-avoided.result ≡ avoided dump c.args.asked.now.plan c.in-Ok-open_plan_image.opened.hidden =
    rw (c.as_slice.ensures.value, c.in-Ok.frame.frame.marked, c.in-Ok.ensures.dump, c.above.ensures, c.ends.ensures) at c.new-avoided.ensures in
    IfOk-weaker c.write_plan.result _ _ (λ o h. with_list (on_grid c.in-Ok.ensures.grid (hiding c.in-Ok-open_plan_image.opened.hidden
    (rw c.in-Ok.ensures.dump at c.in-Ok-open_plan_image.ensures.hidden) (OfFile-weaker d dump c.args.asked.now.plan.paths.image.now _ _
    (λ s k agrees o a. a [] (nothing_held c.of-pages.result.contents c.write_plan.new.pages.contents (c.of-pages.ensures.contents ∙ c.new.ensures)
    c.write_plan.ensures.contents)) o h))))
    (rw (given, c.as_bytes-word.ensures.value) at (c.write_plan.ensures.answer d dump (rw c.in-Ok.ensures.dump at c.in-Ok-open_plan_image.ensures.opened)))
