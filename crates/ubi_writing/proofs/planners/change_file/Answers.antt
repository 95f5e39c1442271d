use Rattle.ubi_writing.proofs.Prelude.{[], ◌∙◌, ◌≡◌, arith, drop, take, option_map, IfOk-weaker, keeps_promise, masked, pages_of, avoided, image, on_grid, with_list, ◌++◌, blank, OfFile-weaker, of_any, told, hiding, no_dump}
use Rattle.ubi_files.specs.OverFile.{no_image}
use Rattle.ubi_writing.proofs.AnyContents.{nothing_held}
use Rattle.ubi_writing.proofs.Planned.{unplanned_any}
use Rattle.ubi_writing.proofs.planners.change_file.Goals as goal

pub returns-in-Err-clause-answer : goal.returns-in-Err-clause-answer
returns-in-Err-clause-answer g c =
    IfOk-weaker c.answer.result _ _ (unplanned_any _ c.args.dump.now c.args.asked.now.plan.paths.image.now _)
    (told _ c.in-Err.unplanned c.answer.result c.in-Err.ensures.unplanned c.answer.ensures)

pub returns-in-Err-open_plan_image-clause-answer : goal.returns-in-Err-open_plan_image-clause-answer
returns-in-Err-open_plan_image-clause-answer g c =
    IfOk-weaker c.answer-in-Err-open_plan_image.result _ _ (λ o h. with_list (on_grid c.in-Ok.ensures.grid (no_dump h)))
    (told _ c.in-Err-open_plan_image.unread c.answer-in-Err-open_plan_image.result
    (rw c.in-Ok.ensures.dump at c.in-Err-open_plan_image.ensures.unread) c.answer-in-Err-open_plan_image.ensures)

pub returns-in-Err-load-clause-answer : goal.returns-in-Err-load-clause-answer
returns-in-Err-load-clause-answer g c =
    let dump = c.args.dump.now in
    IfOk-weaker c.answer-in-Err-load.result _ _
    (λ o h. with_list (on_grid c.in-Ok.ensures.grid (hiding c.in-Ok-open_plan_image.opened.hidden
    (rw c.in-Ok.ensures.dump at c.in-Ok-open_plan_image.ensures.hidden) (of_any
    (λ s. record { size = s.len; failures = s.failures; held = option_map (masked s.file.size s.file.marks.now) (option_map (λ all. blank s.file.file.file.before ++ all) (option_map (pages_of s.file.file.file.file.file.page s.file.file.file.file.file.oob) (option_map (λ all. take s.file.file.file.file.file.file.file.len (drop s.file.file.file.file.file.file.file.start all)) (g.D.Placed.PlacedFile.bytes s.file.file.file.file.file.file.file.file.file)))) })
    (λ s. s.trace.reads) _
    (g.D.Disk.files c.args.disk.now) dump c.args.asked.now.plan.paths.image.now _ o (λ s. keeps_promise _ _ _ s.told) (λ s is. is)
    (λ k agrees. no_image h) c.in-Ok-open_plan_image.opened.image
    (rw c.in-Ok.ensures.dump at c.in-Ok-open_plan_image.ensures.opened)))))
    (told _ c.in-Err-load.unread c.answer-in-Err-load.result c.in-Err-load.ensures.unread c.answer-in-Err-load.ensures)

pub returns-clause-answer : goal.returns-clause-answer
returns-clause-answer g c =
    let dump = c.args.dump.now in
    let d = g.D.Disk.files c.args.disk.now in
    let file = c.in-Ok-load.file in
    let given : c.new-avoided.result ≡ avoided dump c.args.asked.now.plan c.in-Ok-open_plan_image.opened.hidden =
    rw (c.as_slice.ensures.value, c.in-Ok.frame.frame.marked, c.in-Ok.ensures.dump, c.above.ensures, c.ends.ensures) at c.new-avoided.ensures in
    IfOk-weaker c.write_plan.result _ _
    (λ o h. with_list (on_grid c.in-Ok.ensures.grid (hiding c.in-Ok-open_plan_image.opened.hidden
    (rw c.in-Ok.ensures.dump at c.in-Ok-open_plan_image.ensures.hidden) (OfFile-weaker d dump c.args.asked.now.plan.paths.image.now _ _
    (λ s k agrees o a. image file.bytes.items c.in-Ok-load.ensures.read c.in-Ok-load.ensures.named
    (a [] (nothing_held c.of-pages.result.contents c.write_plan.new.pages.contents (c.of-pages.ensures.contents ∙ c.new.ensures) c.write_plan.ensures.contents))) o h))))
    (rw (given, c.as_slice-2.ensures.value) at (c.write_plan.ensures.answer d dump (rw c.in-Ok.ensures.dump at c.in-Ok-open_plan_image.ensures.opened)))

pub returns-clause-from : goal.returns-clause-from
returns-clause-from g c = c.write_plan.ensures.reads 0 c.args.asked.now.from (omega arith)
