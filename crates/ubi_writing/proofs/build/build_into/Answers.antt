use Rattle.ubi_writing.proofs.Prelude.{◌∙◌, List, ap, map, refl, subst, sym, ℕ, IfOk, IfSome, Option, keeps_promise, Source, known_by, All, Wrote, image_built, fresh, row_bytes, kept_since, others_stay}
use Rattle.ubi_writing.proofs.BuiltInto.{build_ends, held_after, memory_ends, still_unopened}
use Rattle.ubi_writing.proofs.build.build_into.Goals as goal

pub returns-clause-answer : goal.returns-clause-answer
returns-clause-answer g c = λ sections are.
    let d = g.K.Target.files in
    let e = g.D.Disk.files c.keep_file.new.disk in
    let parts = c.into_parts-disk.ensures in
    let late = c.finished-end.new.late in
    let known : Source = record {
      size = c.args.source.now.len;
      failures = c.args.source.now.failures;
      held = row_bytes (map (λ f. g.D.Placed.PlacedFile.bytes f.file) c.args.source.now.file.files.items);
    } in
    build_ends (λ f. g.D.Output.Write.contents f.writer) (λ f. f.path.now) d e c.args.asked.now.from.now c.args.asked.now.out.now sections
    c.args.recipe.now _ c.args.asked.now.spares g.K.Target.path (fresh d) late.file c.build_to-work.new.source.len
    c.build_to-work.new.source.trace.reads c.told.ensures.meaning c.requires.named refl
    (rw parts.file at parts.named)
    (kept_since (λ f. g.D.Output.Write.contents f.writer) (λ f. f.path.now) d (g.D.Disk.files c.into_parts-disk.result.0.now) e g.K.Target.path
    late.file parts.since (rw parts.file at parts.named) (rw parts.file at c.keep_file.ensures.kept))
    (λ none. ap g.D.Disk.files (c.keep_file.ensures.none (parts.file ∙ none)) ∙ parts.before (parts.file ∙ none))
    (subst (λ (h : Option (List ℕ)). IfSome h (known_by c.build_to-work.new.source.len c.build_to-work.new.source.trace.reads))
    (ap (λ (x : Source). x.held) c.build_to-work.ensures.known ∙ held_after known c.build_to-work.result)
    (keeps_promise _ _ _ c.build_to-work.new.source.told))
    c.told.result known _ _ _ c.build_to-work.result c.finished-end.result
    (subst (λ (x : Option (List ℕ)). IfOk c.build_to-work.result (Wrote (known_by c.build_to-work.new.source.len c.build_to-work.new.source.trace.reads) (fresh d) x (image_built c.args.recipe.now c.args.asked.now.spares) All 0))
    (sym c.finished-end.ensures.contents) (rw c.new-late.ensures at c.build_to-work.ensures.written)) c.build_to-work.ensures.whole c.build_to-work.ensures.refused c.finished-end.ensures.done c.finished-end.ensures.failed
    (still_unopened (λ l. l.file) c.build_to-work.result c.finished-end.result c.new-late.result c.build_to-work.new.writer late c.new-late.ensures
    c.build_to-work.ensures.untouched c.finished-end.ensures.failed c.finished-end.ensures.untouched)
    (c.told.ensures.told c.args.asked.now.from.now c.args.asked.now.out.now sections are)

pub returns-clause-others : goal.returns-clause-others
returns-clause-others g c =
    let parts = c.into_parts-disk.ensures in
    others_stay (λ f. g.D.Output.Write.contents f.writer) (λ f. f.path.now) g.K.Target.files (g.D.Disk.files c.keep_file.new.disk)
    c.args.asked.now.out.now g.K.Target.path c.into_parts-disk.result.1 c.requires.named parts.named
    (kept_since (λ f. g.D.Output.Write.contents f.writer) (λ f. f.path.now) g.K.Target.files (g.D.Disk.files c.into_parts-disk.result.0.now)
    (g.D.Disk.files c.keep_file.new.disk) g.K.Target.path c.into_parts-disk.result.1 parts.since parts.named c.keep_file.ensures.kept)
    (λ none. ap g.D.Disk.files (c.keep_file.ensures.none none) ∙ parts.before none)

pub returns-clause-memory : goal.returns-clause-memory
returns-clause-memory g c =
    let late = c.finished-end.new.late in
    let parts = c.into_parts-disk.ensures in
    memory_ends c.finished-end.result c.told.result late.file g.K.Target.files (g.D.Disk.files c.keep_file.new.disk)
    c.told.ensures.memory c.told.ensures.done
    (still_unopened (λ l. l.file) c.build_to-work.result c.finished-end.result c.new-late.result c.build_to-work.new.writer late c.new-late.ensures
    c.build_to-work.ensures.untouched c.finished-end.ensures.failed c.finished-end.ensures.untouched)
    (λ none. ap g.D.Disk.files (c.keep_file.ensures.none (parts.file ∙ none)) ∙ parts.before (parts.file ∙ none))
