use Rattle.ubi_writing.proofs.Prelude.{AskedEdits, HasUpdate, IfOk-weaker, IsAllAsked, OfFile-weaker, TheseStay, UpdatesFrom, WritesPlan, all_asked_edits, all_bytes, ap, asked_edits, avoided, blank, bytes_in, drop, keeps_promise, known_by, map, masked, of_any, on_grid, option_map, pages_of, row_bytes, row_sized, subst, sym, take, told, with_list, ◌++◌, ◌∙◌, ◌≡◌, all_reads, hiding, no_dump}
use Rattle.ubi_writing.proofs.FilledContents.{promise_kept}
use Rattle.ubi_writing.proofs.KeptReads.{config_kept, words_kept}
use Rattle.ubi_writing.proofs.Planned.{unplanned_any}
use Rattle.ubi_writing.specs.Contents as contents
use Rattle.ubi_writing.proofs.AskedVolumes.{same_edits, unasked_told}
use Rattle.ubi_writing.proofs.planners.update_file.Given as given
use Rattle.ubi_writing.proofs.planners.update_file.Goals as goal

pub returns-in-Err-clause-answer : goal.returns-in-Err-clause-answer
returns-in-Err-clause-answer g c =
    IfOk-weaker c.answer.result _ _ (unplanned_any _ c.args.dump.now c.args.asked.now.plan.paths.image.now _)
    (told _ c.in-Err.unplanned c.answer.result c.in-Err.ensures.unplanned c.answer.ensures)

pub returns-in-Err-open_plan_image-clause-answer : goal.returns-in-Err-open_plan_image-clause-answer
returns-in-Err-open_plan_image-clause-answer g c =
    IfOk-weaker c.answer-in-Err-open_plan_image.result _ _ (λ o h. with_list (on_grid c.in-Ok.ensures.grid (no_dump h)))
    (told _ c.in-Err-open_plan_image.unread c.answer-in-Err-open_plan_image.result
    (rw c.in-Ok.ensures.dump at c.in-Err-open_plan_image.ensures.unread) c.answer-in-Err-open_plan_image.ensures)

pub returns-in-Err-gather_asked-clause-answer : goal.returns-in-Err-gather_asked-clause-answer
returns-in-Err-gather_asked-clause-answer g c =
    let dump = c.args.dump.now in
    IfOk-weaker c.answer-in-Err-gather_asked.result _ _
    (λ o h. with_list (on_grid c.in-Ok.ensures.grid (hiding c.in-Ok-open_plan_image.opened.hidden
    (rw c.in-Ok.ensures.dump at c.in-Ok-open_plan_image.ensures.hidden) (of_any
    (λ s. record { size = s.len; failures = s.failures; held = option_map (masked s.file.size s.file.marks.now) (option_map (λ all. blank s.file.file.file.before ++ all) (option_map (pages_of s.file.file.file.file.file.page s.file.file.file.file.file.oob) (option_map (λ all. take s.file.file.file.file.file.file.file.len (drop s.file.file.file.file.file.file.file.start all)) (g.D.Placed.PlacedFile.bytes s.file.file.file.file.file.file.file.file.file)))) })
    (λ s. s.trace.reads) _
    (g.D.Disk.files c.args.disk.now) dump c.args.asked.now.plan.paths.image.now _ o (λ s. keeps_promise _ _ _ s.told) (λ s is. is)
    (λ k agrees. unasked_told _ _ c.args.asked.now _ o h) c.in-Ok-open_plan_image.opened.image
    (rw c.in-Ok.ensures.dump at c.in-Ok-open_plan_image.ensures.opened)))))
    (told _ c.in-Err-gather_asked.unread c.answer-in-Err-gather_asked.result c.in-Err-gather_asked.ensures.unread c.answer-in-Err-gather_asked.ensures)

pub of-requires : goal.of-requires
of-requires g c = rw c.new.ensures (λ all is.
    row_sized (λ f. bytes_in (λ x. g.D.Placed.PlacedFile.bytes x.file) f.file) (λ f. f.len) (λ f. f.sized) c.in-Ok-gather_asked.gathered.1.items all is
    ∙ sym c.in-Ok-gather_asked.ensures.total)

module _ (g : given.Over) (c : goal.After-drop-frame-3 g) where
  abbrev by : IsAllAsked (g.D.Disk.files c.args.disk.now) c.args.dump.now.numbers c.args.asked.now c.in-Ok-gather_asked.gathered.0
      (map (λ f. bytes_in (λ x. g.D.Placed.PlacedFile.bytes x.file) f.file) c.in-Ok-gather_asked.gathered.1.items)
  by = c.in-Ok-gather_asked.ensures.asked

  lent : map (λ p. p.now) c.in_ok-reads.reads.items ≡ all_reads c.args.asked.now by.sections
  lent = (rw c.as_slice.ensures.value at c.in_ok-reads.ensures) ∙ by.paths

  -- the edits are all that is asked for
  edits : asked_edits (record { asks = c.as_slice-2.result; volumes = c.as_slice-3.result; paths = c.as_slice-4.result })
      ≡ all_asked_edits c.args.asked.now by.sections by.filled by.imaged
  edits = same_edits _ _ _ _ _ _ (c.as_slice-2.ensures.value ∙ by.asks) (c.as_slice-3.ensures.value ∙ by.volumes)
      (ap (map (λ p. p.now)) c.as_slice-4.ensures.value ∙ lent)

  kept : TheseStay (g.D.Disk.files c.args.disk.now) (g.D.Disk.files c.write_plan-work.new.disk) c.in_ok-reads.reads.items
  kept = rw c.as_slice-6.ensures.value at c.write_plan-work.ensures.reads

pub returns-clause-answer : goal.returns-clause-answer
returns-clause-answer g c =
    let dump = c.args.dump.now in
    let u = c.args.asked.now in
    let d = g.D.Disk.files c.args.disk.now in
    let e = g.D.Disk.files c.write_plan-work.new.disk in
    let av = avoided dump u.plan c.in-Ok-open_plan_image.opened.hidden in
    let all = by g c in
    let left = c.write_plan-work.new.pages.contents in
    let reads = left.trace.reads in
    let size : left.len ≡ all_bytes all.filled all.imaged =
    (rw (c.of-pages.ensures.contents, c.of.ensures.len) at c.write_plan-work.ensures.contents.size) ∙ all.total in
    let held = (rw (c.of-pages.ensures.contents, c.of.ensures.file, c.new.ensures) at c.write_plan-work.ensures.contents.held) ∙ ap row_bytes all.held in
    let promise = keeps_promise _ left.len reads left.told in
    let given : c.new-avoided.result ≡ avoided dump u.plan c.in-Ok-open_plan_image.opened.hidden =
    rw (c.as_slice-5.ensures.value, c.in-Ok.frame.frame.marked, c.in-Ok.ensures.dump, c.above.ensures, c.ends.ensures) at c.new-avoided.ensures in
    IfOk-weaker c.write_plan-work.result _ _
    (λ o h. with_list (on_grid c.in-Ok.ensures.grid (hiding c.in-Ok-open_plan_image.opened.hidden
    (rw c.in-Ok.ensures.dump at c.in-Ok-open_plan_image.ensures.hidden) (OfFile-weaker d dump u.plan.paths.image.now _ _
    (λ s k agrees o a. contents.sections all.sections all.config (contents.contents all.filled all.imaged reads all.are all.are_imaged
    (promise_kept _ _ left.len _ reads held size promise)
    (λ bytes known. subst (λ (w : AskedEdits). WritesPlan u.plan.paths.out.now u.plan.pages d e (UpdatesFrom av w bytes u.plan.stop s k agrees)
    (HasUpdate av w bytes s k agrees) o) (edits g c) (a bytes (subst (λ n. known_by n reads bytes) (sym size) known))))) o h))))
    (rw given at (c.write_plan-work.ensures.answer d dump (rw c.in-Ok.ensures.dump at c.in-Ok-open_plan_image.ensures.opened)))

pub returns-clause-contents : goal.returns-clause-contents
returns-clause-contents g c =
    words_kept (g.D.Disk.files c.args.disk.now) (g.D.Disk.files c.write_plan-work.new.disk) c.args.asked.now (by g c).sections
    c.in_ok-reads.reads.items (kept g c) (lent g c)

pub returns-clause-config : goal.returns-clause-config
returns-clause-config g c =
    config_kept (g.D.Disk.files c.args.disk.now) (g.D.Disk.files c.write_plan-work.new.disk) c.args.asked.now (by g c).sections
    c.in_ok-reads.reads.items (kept g c) (lent g c)
