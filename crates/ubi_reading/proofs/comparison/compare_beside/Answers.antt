use Rattle.ubi_reading.proofs.Prelude.{◌∙◌, refl, err_from_is_err_and, keeps_promise, answered, unreadable, ComparesOf, Tells-weaker, beside_bytes, beside_places, both, unread_side, tells_less}
use Rattle.ubi_reading.proofs.comparison.compare_beside.Goals as goal

pub returns-in_err-frame-clause-unread : goal.returns-in_err-frame-clause-unread
returns-in_err-frame-clause-unread g c =
    let p = err_from_is_err_and c.from_residual.result c.from_residual.ensures.1 in
    rw (p.1, p.2) (Tells-weaker _ _ (λ o h. answered refl (unreadable h)) _ (c.in_err-frame.ensures.broken c.args.right.path.now))

pub returns-in_err-file-clause-unread : goal.returns-in_err-file-clause-unread
returns-in_err-file-clause-unread g c =
    let p = err_from_is_err_and c.from_residual-in_err-file.result c.from_residual-in_err-file.ensures.1 in
    rw (p.1, p.2) (Tells-weaker _ _ (λ o h. answered refl h) _ (rw c.in_ok-frame.ensures.dump at c.in_err-file.ensures.unread))

pub returns-in-AtPlaces-clause-answer : goal.returns-in-AtPlaces-clause-answer
returns-in-AtPlaces-clause-answer g c =
    let dump = c.args.right.known.dump in
    let d = g.D.Disk.files c.args.disk.now in
    let h = rw (c.in_ok-frame.ensures.dump, c.in-AtPlaces.is) at c.in_ok-file.ensures.opened in
    let work = c.answer-work.ensures in
    let known = g.S.BlockSource.known c.args.source.now in
    let agrees = g.S.BlockSource.agrees c.answer-work.new.left in
    beside_places c.answer-work.result known _ c.args.left.now c.args.right.path.now d dump
    (λ s l there. ComparesOf c.args.how s known agrees l there) c.in-AtPlaces.file.geometry h.0 _ _ _
    c.done_over_sides.result h.1 h.2 h.3 (keeps_promise _ _ _ c.answer-work.new.right.told) work.left work.right
    (both c.answer-work.result _ _ work.compared work.compares) c.done_over_sides.ensures.done

pub returns-in-AtPlaces-clause-unread : goal.returns-in-AtPlaces-clause-unread
returns-in-AtPlaces-clause-unread g c =
    let dump = c.args.right.known.dump in
    let d = g.D.Disk.files c.args.disk.now in
    let h = rw (c.in_ok-frame.ensures.dump, c.in-AtPlaces.is) at c.in_ok-file.ensures.opened in
    tells_less c.done_over_sides.result _ _
    (λ o failed. unread_side c.answer-work.result _ _ c.args.left.now c.args.right.path.now d dump (λ _ _ _ _. Unit {0})
    c.in-AtPlaces.file.geometry h.0 o h.1 c.answer-work.ensures.left failed) c.done_over_sides.ensures.unread

pub returns-clause-answer : goal.returns-clause-answer
returns-clause-answer g c =
    let dump = c.args.right.known.dump in
    let d = g.D.Disk.files c.args.disk.now in
    let h = rw (c.in_ok-frame.ensures.dump, c.in-Whole.is) at c.in_ok-file.ensures.opened in
    let work = c.answer-work-in-Whole.ensures in
    let known = g.S.BlockSource.known c.args.source.now in
    let agrees = g.S.BlockSource.agrees c.answer-work-in-Whole.new.left in
    beside_bytes c.answer-work-in-Whole.result known _ c.args.left.now c.args.right.path.now d dump
    (λ s l there. ComparesOf c.args.how s known agrees l there) c.in-Whole.file.geometry h.0
    c.in-Whole.file.bytes.items _ _ c.done_over_sides-in-Whole.result h.1 h.2 h.3 (c.new-beside.ensures ∙ c.as_slice.ensures.value)
    work.right_narrows work.left (both c.answer-work-in-Whole.result _ _ work.compared work.compares)
    c.done_over_sides-in-Whole.ensures.done

pub returns-clause-unread : goal.returns-clause-unread
returns-clause-unread g c =
    let dump = c.args.right.known.dump in
    let d = g.D.Disk.files c.args.disk.now in
    let h = rw (c.in_ok-frame.ensures.dump, c.in-Whole.is) at c.in_ok-file.ensures.opened in
    tells_less c.done_over_sides-in-Whole.result _ _
    (λ o failed. unread_side c.answer-work-in-Whole.result _ _ c.args.left.now c.args.right.path.now d dump (λ _ _ _ _. Unit {0})
    c.in-Whole.file.geometry h.0 o h.1.limits c.answer-work-in-Whole.ensures.left failed) c.done_over_sides-in-Whole.ensures.unread
