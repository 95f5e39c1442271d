use Rattle.ubi_writing.proofs.Prelude.{bare, keeps_promise, read_at_places, ◌∙◌, ◌≡◌, length, masked, sizes_of, Tells-weaker, err_from_is_err_and, unreadable, with_items_is, marks_of, cannot_read}
use Rattle.ubi_writing.proofs.PlanImages.{hidden_whole, unseen_bare, whole_masked}
use Rattle.ubi_writing.proofs.plan_image.open_plan_image.Goals as goal

pub returns-in_err-file-clause-unread : goal.returns-in_err-file-clause-unread
returns-in_err-file-clause-unread g c =
    let p = err_from_is_err_and c.from_residual.result c.from_residual.ensures.1 in
    rw (p.1, p.2)
    (Tells-weaker _ _ (unseen_bare (g.D.Disk.files c.args.disk.now) c.args.plan.now.frame.dump c.args.path.now) c.in_err-file.field-0.0
    (rw c.requires at c.in_err-file.ensures.unread))

pub returns-in_err-hidden-in-AtPlaces-clause-unread : goal.returns-in_err-hidden-in-AtPlaces-clause-unread
returns-in_err-hidden-in-AtPlaces-clause-unread g c =
    let p = err_from_is_err_and c.from_residual-in_err-hidden-in-AtPlaces.result c.from_residual-in_err-hidden-in-AtPlaces.ensures.1 in
    rw (p.1, p.2)
    (Tells-weaker _ _ (λ o h. unreadable (cannot_read c.args.plan.now.frame.limits h)) c.in_err-hidden-in-AtPlaces.field-0.0
    c.in_err-hidden-in-AtPlaces.ensures.unread)

pub returns-in_err-hidden-in-Whole-clause-unread : goal.returns-in_err-hidden-in-Whole-clause-unread
returns-in_err-hidden-in-Whole-clause-unread g c =
    let p = err_from_is_err_and c.from_residual-in_err-hidden-in-Whole.result c.from_residual-in_err-hidden-in-Whole.ensures.1 in
    rw (p.1, p.2)
    (Tells-weaker _ _ (λ o h. unreadable (cannot_read c.args.plan.now.frame.limits h)) c.in_err-hidden-in-Whole.field-0.0
    c.in_err-hidden-in-Whole.ensures.unread)

pub returns-in_ok-hidden-in-Whole-clause-opened : goal.returns-in_ok-hidden-in-Whole-clause-opened
returns-in_ok-hidden-in-Whole-clause-opened g c =
    let frame = c.args.plan.now.frame in
    let file = c.in-Whole.file in
    let h = rw (c.in-Whole.is, c.requires) at c.in_ok-file.ensures.opened in
    let long : length c.mask.new.bytes ≡ file.bytes.len = c.mask.auto.bytes ∙ c.as_mut_slice.ensures.len in
    let are : c.mask.new.bytes ≡ masked (sizes_of frame.dump.numbers).peb_size (marks_of frame.dump) file.bytes.items =
    rw (c.peb_size.ensures.value, c.as_mut_slice.ensures.value, c.as_slice-marks.ensures.value, frame.sizes, frame.marked) at c.mask.ensures in
    let whole = whole_masked (g.D.Disk.files c.args.disk.now) frame.dump c.args.path.now file.bytes.items _ h.1 h.2
    (with_items_is file.bytes c.mask.new.bytes long ∙ are) in
    (h.0, whole.0, whole.1, h.3)

pub returns-in_ok-hidden-in-Whole-clause-hidden : goal.returns-in_ok-hidden-in-Whole-clause-hidden
returns-in_ok-hidden-in-Whole-clause-hidden g c =
    let frame = c.args.plan.now.frame in
    let h = rw (c.in-Whole.is, c.requires) at c.in_ok-file.ensures.opened in
    hidden_whole (g.D.Disk.files c.args.disk.now) frame.dump c.args.path.now c.in-Whole.file.bytes.items _ h.1 h.2 h.3
    (rw (c.as_slice.ensures.value, c.as_slice-marks.ensures.value, frame.sizes, frame.marked) at c.in_ok-hidden-in-Whole.ensures.hidden)

pub returns-in_ok-image-in-AtPlaces-clause-hidden : goal.returns-in_ok-image-in-AtPlaces-clause-hidden
returns-in_ok-image-in-AtPlaces-clause-hidden g c =
    let frame = c.args.plan.now.frame in
    let h = rw (c.in-AtPlaces.is, c.requires) at c.in_ok-file.ensures.opened in
    read_at_places (g.D.Disk.files c.args.disk.now) (bare frame.dump) c.args.path.now _ _ _ _ h.1 h.2 h.3
    (keeps_promise _ _ _ c.hidden_from.new.source.told) c.in_ok-hidden-in-AtPlaces.ensures.known
    (λ bytes held few. (rw (c.as_slice-marks.ensures.value, frame.sizes, frame.marked) at c.in_ok-hidden-in-AtPlaces.ensures.hidden) bytes held)
