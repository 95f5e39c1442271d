use Rattle.ubi_writing.proofs.Prelude.{answered, no_source, HasWork, writes}
use Rattle.ubi_writing.proofs.AtOnce.{replaced_into}
use Rattle.ubi_writing.proofs.writers.work_at_once.Goals as goal

pub returns-in-Ok-clause-answer : goal.returns-in-Ok-clause-answer
returns-in-Ok-clause-answer g c =
    let k = g.S.BlockSource.known c.args.source.now in
    let agrees = g.S.BlockSource.agrees c.answer.new.source in
    let of = c.in-Ok.ensures in
    answered of.known
    (replaced_into c.args.paths.now.out.now (g.D.Disk.files c.args.disk.now) (g.D.Disk.files c.replaced.new.disk)
    (writes c.args.command.now (g.T.BlockSource.agrees c.answer.new.pages.contents) c.answer.new.pages.made c.args.geometry.now k agrees) (HasWork c.args.command.now (g.T.BlockSource.agrees c.answer.new.pages.contents) c.args.geometry.now k agrees)
    c.answer.new.writer.bytes.items c.in-Ok.outcome c.args.faults.unwritten c.replaced.result
    (rw (c.new-held.ensures, ← c.requires.files) at of.answer) of.done c.requires.unwritten
    (rw c.bytes.ensures at c.replaced.ensures.answer))

pub returns-in-Err-Read-clause-answer : goal.returns-in-Err-Read-clause-answer
returns-in-Err-Read-clause-answer g c =
    no_source (rw c.in-Err-Read.field-0-is at c.in-Err-Read.ensures.known) c.requires.unread
