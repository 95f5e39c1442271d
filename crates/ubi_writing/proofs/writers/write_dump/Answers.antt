use Rattle.ubi_writing.proofs.Prelude.{[], ◌∙◌, IfOk-weaker, OfFile-weaker, no_file, pages_made, unreadable, told}
use Rattle.ubi_writing.proofs.AnyContents.{into_each, nothing_held}
use Rattle.ubi_writing.proofs.writers.write_dump.Goals as goal

pub returns-in-Err-clause-answer : goal.returns-in-Err-clause-answer
returns-in-Err-clause-answer g c =
    IfOk-weaker c.answer.result _ _ (λ o h. ([], no_file (unreadable h)))
    (told _ c.in-Err.unread c.answer.result (c.in-Err.ensures.broken c.args.paths.now.image.now) c.answer.ensures)

pub returns-in-Err-open_known_beside-clause-answer : goal.returns-in-Err-open_known_beside-clause-answer
returns-in-Err-open_known_beside-clause-answer g c =
    IfOk-weaker c.answer-in-Err-open_known_beside.result _ _ (λ o h. ([], no_file h))
    (told _ c.in-Err-open_known_beside.unread c.answer-in-Err-open_known_beside.result
    (rw c.in-Ok.ensures.dump at c.in-Err-open_known_beside.ensures.unread) c.answer-in-Err-open_known_beside.ensures)

pub returns-in-AtOnce-clause-answer : goal.returns-in-AtOnce-clause-answer
returns-in-AtOnce-clause-answer g c =
    let dump = c.args.known.dump in
    IfOk-weaker c.replace_opened.result _ _
    (λ o h. (
      pages_made c.replace_opened.new.pages.made [],
      OfFile-weaker _ dump c.args.paths.now.image.now _ _
          (λ s k agrees o a. into_each c.args.paths.now.out.now _ _ c.args.command.now _ c.replace_opened.new.pages.made s k agrees o a []
          (nothing_held c.of-pages.result.contents c.replace_opened.new.pages.contents (c.of-pages.ensures.contents ∙ c.new.ensures) c.replace_opened.ensures.contents)) o h,
    ))
    (c.replace_opened.ensures.answer (g.D.Disk.files c.args.disk.now) dump
    (rw c.in-Ok.ensures.dump at c.in-Ok-open_known_beside.ensures.opened))

pub returns-in-Late-clause-answer : goal.returns-in-Late-clause-answer
returns-in-Late-clause-answer g c =
    let dump = c.args.known.dump in
    IfOk-weaker c.write_opened.result _ _
    (λ o h. (
      pages_made c.write_opened.new.pages.made [],
      OfFile-weaker _ dump c.args.paths.now.image.now _ _
          (λ s k agrees o a. into_each c.args.paths.now.out.now _ _ c.args.command.now _ c.write_opened.new.pages.made s k agrees o a []
          (nothing_held c.of-pages.result.contents c.write_opened.new.pages.contents (c.of-pages.ensures.contents ∙ c.new.ensures) c.write_opened.ensures.contents)) o h,
    ))
    (c.write_opened.ensures.answer (g.D.Disk.files c.args.disk.now) dump
    (rw c.in-Ok.ensures.dump at c.in-Ok-open_known_beside.ensures.opened))

pub returns-clause-answer : goal.returns-clause-answer
returns-clause-answer g c =
    let dump = c.args.known.dump in
    IfOk-weaker c.write_opened-in-Never.result _ _
    (λ o h. (
      pages_made c.write_opened-in-Never.new.pages.made [],
      OfFile-weaker _ dump c.args.paths.now.image.now _ _
          (λ s k agrees o a. into_each c.args.paths.now.out.now _ _ c.args.command.now _ c.write_opened-in-Never.new.pages.made s k agrees o a []
          (nothing_held c.of-pages.result.contents c.write_opened-in-Never.new.pages.contents (c.of-pages.ensures.contents ∙ c.new.ensures) c.write_opened-in-Never.ensures.contents)) o h,
    ))
    (c.write_opened-in-Never.ensures.answer (g.D.Disk.files c.args.disk.now) dump
    (rw c.in-Ok.ensures.dump at c.in-Ok-open_known_beside.ensures.opened))
