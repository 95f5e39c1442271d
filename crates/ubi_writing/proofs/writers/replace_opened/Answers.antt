use Rattle.ubi_writing.proofs.Prelude.{◌∙◌, IfOk-weaker, keeps_promise, WritesInto, HasWork, writes, at_places, by_bytes}
use Rattle.ubi_writing.proofs.writers.replace_opened.Goals as goal

pub returns-in-AtPlaces-clause-answer : goal.returns-in-AtPlaces-clause-answer
returns-in-AtPlaces-clause-answer g c d dump is =
    let before = g.D.Disk.files c.args.disk.now in
    let e = g.D.Disk.files c.replace_into-work.new.disk in
    let paths = c.args.paths.now in
    let h = rw c.in-AtPlaces.is at is in
    IfOk-weaker c.replace_into-work.result _ _
    (λ o work. at_places d dump paths.image.now
    (λ s k agrees. WritesInto paths.out.now before e (writes c.args.command.now (g.T.BlockSource.agrees c.replace_into-work.new.pages.contents) c.replace_into-work.new.pages.made s k agrees) (HasWork c.args.command.now (g.T.BlockSource.agrees c.replace_into-work.new.pages.contents) s k agrees))
    c.in-AtPlaces.file.geometry h.0 _ _ _ o h.1 h.2 h.3 (keeps_promise _ _ _ c.replace_into-work.new.source.told) work)
    c.replace_into-work.ensures.answer

pub returns-in-Whole-clause-answer : goal.returns-in-Whole-clause-answer
returns-in-Whole-clause-answer g c d dump is =
    let before = g.D.Disk.files c.args.disk.now in
    let e = g.D.Disk.files c.replace_into-work-in-Whole.new.disk in
    let paths = c.args.paths.now in
    let h = rw c.in-Whole.is at is in
    IfOk-weaker c.replace_into-work-in-Whole.result _ _
    (λ o work. by_bytes d dump paths.image.now
    (λ s k agrees. WritesInto paths.out.now before e (writes c.args.command.now (g.T.BlockSource.agrees c.replace_into-work-in-Whole.new.pages.contents) c.replace_into-work-in-Whole.new.pages.made s k agrees) (HasWork c.args.command.now (g.T.BlockSource.agrees c.replace_into-work-in-Whole.new.pages.contents) s k agrees))
    c.in-Whole.file.geometry h.0 c.in-Whole.file.bytes.items _ _ o h.1 h.2 h.3 (c.new-source.ensures ∙ c.as_slice.ensures.value)
    c.replace_into-work-in-Whole.ensures.narrows work)
    c.replace_into-work-in-Whole.ensures.answer
