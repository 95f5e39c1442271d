use Rattle.ubi_writing.proofs.Prelude.{◌∙◌, IfErr-weaker, IfOk-weaker, keeps_promise, no_file, unreadable, UnpacksOf, both, told_at_places, told_by_bytes, told}
use Rattle.ubi_writing.proofs.unpack.unpack_dump.Goals as goal

pub returns-in-Ok-AtPlaces-clause-answer : goal.returns-in-Ok-AtPlaces-clause-answer
returns-in-Ok-AtPlaces-clause-answer g c =
    let dump = c.args.known.dump in
    let d = g.D.Disk.files c.args.disk.now in
    let e = g.D.Disk.files c.run_unpack_from-work.new.disk in
    let h = rw (c.in-Ok.ensures.dump, c.in-Ok-AtPlaces.field-0-is) at c.in-Ok-AtPlaces.ensures.opened in
    let work = c.run_unpack_from-work.ensures in
    told_at_places d dump c.args.paths.now.image.now (UnpacksOf c.args.paths.now.out.now d e) c.in-Ok-AtPlaces.file.geometry h.0
    c.run_unpack_from-work.result _ _ _ c.told_or.result h.1 h.2 h.3 (keeps_promise _ _ _ c.run_unpack_from-work.new.source.told) work.known
    (both c.run_unpack_from-work.result _ _ work.ok work.image)
    (c.told_or.ensures.told c.args.paths.now.image.now c.in_ok-unread.ensures)

pub returns-in-Ok-Whole-clause-answer : goal.returns-in-Ok-Whole-clause-answer
returns-in-Ok-Whole-clause-answer g c =
    let dump = c.args.known.dump in
    let d = g.D.Disk.files c.args.disk.now in
    let e = g.D.Disk.files c.run_unpack_from-work-in-Ok-Whole.new.disk in
    let h = rw (c.in-Ok.ensures.dump, c.in-Ok-Whole.field-0-is) at c.in-Ok-Whole.ensures.opened in
    let work = c.run_unpack_from-work-in-Ok-Whole.ensures in
    told_by_bytes d dump c.args.paths.now.image.now (UnpacksOf c.args.paths.now.out.now d e) c.in-Ok-Whole.file.geometry h.0
    c.run_unpack_from-work-in-Ok-Whole.result c.in-Ok-Whole.file.bytes.items _ _ c.told_or-in-Ok-Whole.result h.1 h.2 h.3
    (c.new-source.ensures ∙ c.as_slice.ensures.value) work.narrows work.known
    (both c.run_unpack_from-work-in-Ok-Whole.result _ _ work.ok work.image)
    (c.told_or-in-Ok-Whole.ensures.told c.args.paths.now.image.now c.in_ok-unread.ensures)

pub returns-in-Err-clause-answer : goal.returns-in-Err-clause-answer
returns-in-Err-clause-answer g c =
    IfOk-weaker c.answer.result _ _ (λ o h. no_file (unreadable h))
    (told _ c.in-Err.error c.answer.result (c.in-Err.ensures.broken c.args.paths.now.image.now) c.answer.ensures)

pub returns-clause-answer : goal.returns-clause-answer
returns-clause-answer g c =
    IfOk-weaker c.answer-in-Err-open_known.result _ _ (λ o h. no_file h)
    (told _ c.in-Err-open_known.error c.answer-in-Err-open_known.result
    (rw c.in-Ok.ensures.dump at c.in-Err-open_known.ensures.unread) c.answer-in-Err-open_known.ensures)

pub returns-in-Ok-AtPlaces-clause-memory : goal.returns-in-Ok-AtPlaces-clause-memory
returns-in-Ok-AtPlaces-clause-memory g c =
    IfErr-weaker c.told_or.result _ _ (λ e is. c.run_unpack_from-work.ensures.memory is) c.told_or.ensures.memory

pub returns-in-Ok-Whole-clause-memory : goal.returns-in-Ok-Whole-clause-memory
returns-in-Ok-Whole-clause-memory g c =
    IfErr-weaker c.told_or-in-Ok-Whole.result _ _ (λ e is. c.run_unpack_from-work-in-Ok-Whole.ensures.memory is)
    c.told_or-in-Ok-Whole.ensures.memory
