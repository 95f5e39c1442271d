use Rattle.ubi_reading.proofs.Prelude.{◌∙◌, err_from_is_err_and, keeps_promise, reads, Tells-weaker, unreadable, no_read, tells_less}
use Rattle.ubi_reading.proofs.InFormat.{bytes_read, places_read}
use Rattle.ubi_reading.proofs.readers.answer_dump.Goals as goal

pub returns-in_err-frame-clause-unread : goal.returns-in_err-frame-clause-unread
returns-in_err-frame-clause-unread g c =
    let p = err_from_is_err_and c.from_residual.result c.from_residual.ensures.1 in
    rw (p.1, p.2) (Tells-weaker _ _ (λ o h. unreadable h) _ (c.in_err-frame.ensures.broken c.args.image.now))

pub returns-in-AtPlaces-clause-answer : goal.returns-in-AtPlaces-clause-answer
returns-in-AtPlaces-clause-answer g c =
    let dump = c.args.known.dump in
    let d = g.D.Disk.files c.args.disk.now in
    let h = rw (c.in_ok-frame.ensures.dump, c.in-AtPlaces.is) at c.in_ok-file.ensures.opened in
    let work = c.answer-work.ensures in
    places_read d dump c.args.image.now (reads c.args.command.now) c.in-AtPlaces.file.geometry h.0 c.answer-work.result _ _ _
    c.done_over.result h.1 h.2 h.3 (keeps_promise _ _ _ c.answer-work.new.source.told) work.known work.answer c.done_over.ensures.done

pub returns-in-AtPlaces-clause-unread : goal.returns-in-AtPlaces-clause-unread
returns-in-AtPlaces-clause-unread g c =
    let dump = c.args.known.dump in
    let d = g.D.Disk.files c.args.disk.now in
    let h = rw (c.in_ok-frame.ensures.dump, c.in-AtPlaces.is) at c.in_ok-file.ensures.opened in
    tells_less c.done_over.result _ _ (λ o failed. no_read d dump c.args.image.now o h.1 failed.1) c.done_over.ensures.unread

pub returns-clause-answer : goal.returns-clause-answer
returns-clause-answer g c =
    let dump = c.args.known.dump in
    let d = g.D.Disk.files c.args.disk.now in
    let h = rw (c.in_ok-frame.ensures.dump, c.in-Whole.is) at c.in_ok-file.ensures.opened in
    let work = c.answer-work-in-Whole.ensures in
    bytes_read d dump c.args.image.now (reads c.args.command.now) c.in-Whole.file.geometry h.0 c.answer-work-in-Whole.result
    c.in-Whole.file.bytes.items _ _ c.done_over-in-Whole.result h.1 h.2 h.3 (c.new-source.ensures ∙ c.as_slice.ensures.value)
    work.narrows work.answer c.done_over-in-Whole.ensures.done

pub returns-clause-unread : goal.returns-clause-unread
returns-clause-unread g c =
    let dump = c.args.known.dump in
    let d = g.D.Disk.files c.args.disk.now in
    let h = rw (c.in_ok-frame.ensures.dump, c.in-Whole.is) at c.in_ok-file.ensures.opened in
    tells_less c.done_over-in-Whole.result _ _ (λ o failed. no_read d dump c.args.image.now o h.1.limits failed.1)
    c.done_over-in-Whole.ensures.unread
