use Rattle.ubi_calls.proofs.Prelude.{IfOk-at_ok, image_of, wanted}
use Rattle.ubi_calls.proofs.FilledBuffers.{line, unended, whole}
use Rattle.ubi_calls.proofs.streams.Content.end.Goals as goal

pub returns-then-outcome-eq-DONE : goal.returns-then-outcome-eq-DONE
returns-then-outcome-eq-DONE g c =
    whole g.K.Room.before c.args.out.now c.args.filled c.requires.within c.requires.room c.requires.rest
    (wanted c.args.self (image_of c.args.geometry.now c.args.image.now)) c.in-Ok.outcome c.from.result (IfOk-at_ok _ c.in-Ok.is c.requires.ok)
    c.if-outcome-eq-DONE.true c.from.ensures

pub returns-else-outcome-eq-DONE : goal.returns-else-outcome-eq-DONE
returns-else-outcome-eq-DONE g c =
    line g.K.Room.before c.args.out.now c.args.filled c.requires.within c.requires.room c.requires.rest
    (wanted c.args.self (image_of c.args.geometry.now c.args.image.now)) c.in-Ok.outcome (IfOk-at_ok _ c.in-Ok.is c.requires.ok)
    c.if-outcome-eq-DONE.false (rw c.as_slice.ensures.value at c.hand.ensures)

pub returns-in-Err : goal.returns-in-Err
returns-in-Err g c =
    unended g.K.Room.before c.args.out.now c.args.filled c.requires.within c.requires.room c.requires.rest
    (wanted c.args.self (image_of c.args.geometry.now c.args.image.now)) c.args.work c.in-Err.field-0 c.in-Err.is c.requires.err
