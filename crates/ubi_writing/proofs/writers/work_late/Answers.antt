use Rattle.ubi_writing.proofs.Prelude.{List, ap, refl, subst, sym, ◌∙◌, ℕ, IfOk, Option, fresh, contents_of, HasWork, writes, kept_since, others_stay}
use Rattle.ubi_writing.proofs.Into.{into_file, memory_ended, still_unopened}
use Rattle.ubi_writing.proofs.writers.work_late.Goals as goal

pub returns-clause-answer : goal.returns-clause-answer
returns-clause-answer g c =
    let k = g.S.BlockSource.known c.args.source.now in
    let agrees = g.S.BlockSource.agrees c.answer-answer.new.source in
    let answers = writes c.args.command.now (g.T.BlockSource.agrees c.answer-answer.new.pages.contents) c.answer-answer.new.pages.made c.args.geometry.now k agrees in
    let work = HasWork c.args.command.now (g.T.BlockSource.agrees c.answer-answer.new.pages.contents) c.args.geometry.now k agrees in
    let file = c.ended.new.late.file in
    let empty = fresh g.K.Target.files in
    let parts = c.into_parts-disk.ensures in
    let received = c.ended.ensures.contents
    ∙ ap (λ l. contents_of empty (λ f. g.D.Output.Write.contents f.writer) l.file) c.into_writer-late.ensures in
    let began = rw (c.new-progress.ensures, c.new-late.ensures) at c.answer-answer.ensures.answer in
    let ok = subst (λ (x : Option (List ℕ)). IfOk c.answer-answer.result (answers empty x)) (sym received) began in
    let untouched = still_unopened (λ t. t.writer) (λ l. l.file) c.answer-answer.result c.new-progress.result c.answer-answer.new.writer
    c.new-late.result c.into_writer-late.result c.ended.new.late c.new-progress.ensures c.new-late.ensures
    c.answer-answer.ensures.untouched c.into_writer-late.ensures c.ended.ensures.untouched in
    into_file c.answer-answer.result k (g.S.BlockSource.known c.answer-answer.new.source) c.args.way.now.paths.image.now c.args.way.now.paths.out.now
    g.K.Target.files (g.D.Disk.files c.keep_file.new.disk) answers work (λ f. g.D.Output.Write.contents f.writer)
    (λ f. f.path.now) g.K.Target.path empty file _ _ c.ended.result c.requires.named refl
    (rw parts.file at parts.named)
    (kept_since (λ f. g.D.Output.Write.contents f.writer) (λ f. f.path.now) g.K.Target.files (g.D.Disk.files c.into_parts-disk.result.0.now)
    (g.D.Disk.files c.keep_file.new.disk) g.K.Target.path file parts.since (rw parts.file at parts.named)
    (rw parts.file at c.keep_file.ensures.kept))
    (λ none. ap g.D.Disk.files (c.keep_file.ensures.none (parts.file ∙ none)) ∙ parts.before (parts.file ∙ none)) c.ended.ensures.answer ok
    c.answer-answer.ensures.done untouched c.answer-answer.ensures.failed c.answer-answer.ensures.known c.requires.unread
    c.requires.unwritten

pub returns-clause-others : goal.returns-clause-others
returns-clause-others g c =
    let parts = c.into_parts-disk.ensures in
    others_stay (λ f. g.D.Output.Write.contents f.writer) (λ f. f.path.now) g.K.Target.files (g.D.Disk.files c.keep_file.new.disk)
    c.args.way.now.paths.out.now g.K.Target.path c.into_parts-disk.result.1 c.requires.named parts.named
    (kept_since (λ f. g.D.Output.Write.contents f.writer) (λ f. f.path.now) g.K.Target.files (g.D.Disk.files c.into_parts-disk.result.0.now)
    (g.D.Disk.files c.keep_file.new.disk) g.K.Target.path c.into_parts-disk.result.1 parts.since parts.named c.keep_file.ensures.kept)
    (λ none. ap g.D.Disk.files (c.keep_file.ensures.none none) ∙ parts.before none)

pub returns-clause-memory : goal.returns-clause-memory
returns-clause-memory g c =
    let parts = c.into_parts-disk.ensures in
    let untouched = still_unopened (λ t. t.writer) (λ l. l.file) c.answer-answer.result c.new-progress.result c.answer-answer.new.writer
    c.new-late.result c.into_writer-late.result c.ended.new.late c.new-progress.ensures c.new-late.ensures
    c.answer-answer.ensures.untouched c.into_writer-late.ensures c.ended.ensures.untouched in
    memory_ended c.answer-answer.result c.ended.result _ g.K.Target.files (g.D.Disk.files c.keep_file.new.disk)
    c.ended.new.late.file c.ended.ensures.answer untouched
    (λ none. ap g.D.Disk.files (c.keep_file.ensures.none (parts.file ∙ none)) ∙ parts.before (parts.file ∙ none))

pub returns-clause-shut : goal.returns-clause-shut
returns-clause-shut g c = λ no.
    let parts = c.into_parts-disk.ensures in
    ap g.D.Disk.files (c.keep_file.ensures.none (parts.shut no)) ∙ parts.before (parts.shut no)
