use Rattle.ubi_writing.proofs.Prelude.{Err, ap, answered, no_bytes, no_source, refl, subst, HasWorkOf, FinishesAtOnce, Made, pages_made, writes_of}
use Rattle.ubi_writing.proofs.AtOnce.{finished_plan, undone_plan}
use Rattle.ubi_writing.proofs.planners.plan_at_once.Goals as goal

pub returns-then-outcome-ne-DONE-clause-answer : goal.returns-then-outcome-ne-DONE-clause-answer
returns-then-outcome-ne-DONE-clause-answer g c =
    let k = g.S.BlockSource.known c.args.source.now in
    let agrees = g.S.BlockSource.agrees c.answer.new.source in
    let plan = c.args.plan.now in
    let s = c.args.geometry.now in
    let w = c.args.command.now in
    let of = c.in-Ok.ensures in
    answered of.known
    (λ bytes held. undone_plan plan.paths.out.now plan.pages (g.D.Disk.files c.args.disk.now) (writes_of w bytes s k agrees)
    (HasWorkOf w bytes s k agrees) (pages_made c.answer.new.pages.made bytes) c.answer.new.writer.bytes.items c.in-Ok.outcome
    (rw (c.new-held.ensures, ← c.requires.files) at (of.answer bytes held)) c.if-outcome-ne-DONE.true)

pub returns-else-outcome-ne-DONE-clause-answer : goal.returns-else-outcome-ne-DONE-clause-answer
returns-else-outcome-ne-DONE-clause-answer g c =
    let k = g.S.BlockSource.known c.args.source.now in
    let agrees = g.S.BlockSource.agrees c.answer.new.source in
    let s = c.args.geometry.now in
    let w = c.args.command.now in
    let d = g.D.Disk.files c.args.disk.now in
    let e = g.D.Disk.files c.finish_at_once.new.disk in
    let of = c.in-Ok.ensures in
    let end = c.finish_at_once.ensures in
    answered of.known
    (λ bytes held.
    let then = end.narrows bytes held in
    finished_plan d e c.args.plan.now
    (writes_of w bytes s k agrees) (HasWorkOf w bytes s k agrees)
    (pages_made c.answer.new.pages.made bytes) c.answer.new.writer.bytes.items c.in-Ok.outcome c.finish_at_once.result
    (rw (c.new-held.ensures, ← c.requires.files) at (of.answer bytes then)) c.if-outcome-ne-DONE.false (of.done c.if-outcome-ne-DONE.false bytes then)
    (subst (λ (m : Made). FinishesAtOnce d e c.args.plan.now (pages_made m bytes) c.answer.new.writer.bytes.items c.in-Ok.outcome c.finish_at_once.result)
    end.made (rw c.bytes.ensures at (end.answer bytes held))))

pub returns-in-Err-Read-clause-answer : goal.returns-in-Err-Read-clause-answer
returns-in-Err-Read-clause-answer g c =
    no_source (rw c.in-Err-Read.field-0-is at c.in-Err-Read.ensures.known) c.requires.unread

pub returns-in-Err-Write-clause-answer : goal.returns-in-Err-Write-clause-answer
returns-in-Err-Write-clause-answer g c =
    answered (rw c.in-Err-Write.field-0-is at c.in-Err-Write.ensures.known)
    (λ bytes held. no_bytes (c.in-Err-Write.ensures.failed (ap Err c.in-Err-Write.field-0-is) bytes held) refl (λ path is. refl) c.requires.unwritten)
