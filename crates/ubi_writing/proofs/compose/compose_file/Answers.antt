use Rattle.ubi_writing.proofs.Prelude.{IfOk-weaker, Composes, ComposesInto, no_text, told}
use Rattle.ubi_writing.proofs.ComposedInto.{composes_into, of_text}
use Rattle.ubi_writing.proofs.compose.compose_file.Goals as goal

pub returns-in-Err-clause-answer : goal.returns-in-Err-clause-answer
returns-in-Err-clause-answer g c =
    IfOk-weaker c.answer.result _ _ (λ o h. no_text h)
    (told _ c.in-Err.unread c.answer.result c.in-Err.ensures.unread c.answer.ensures)

pub returns-clause-answer : goal.returns-clause-answer
returns-clause-answer g c =
    let file = c.in-Ok.file in
    let spares = c.args.asked.now.spares in
    let seq = c.args.asked.now.image_seq in
    let d = g.D.Disk.files c.args.disk.now in
    let e = g.D.Disk.files c.write_outcome.new.disk in
    let out = c.args.asked.now.out.now in
    let work : Composes file.geometry file.text.items spares seq c.in_ok-outcome.outcome =
    rw c.as_slice-text.ensures.value at c.in_ok-outcome.ensures in
    IfOk-weaker c.write_outcome.result _ _
    (λ o h. of_text d c.args.numbers c.args.asked.now.from.now (λ s t. ComposesInto out d e s t spares seq) file.geometry file.text.items o
    c.in-Ok.ensures.geometry c.in-Ok.ensures.limits c.in-Ok.ensures.few c.in-Ok.ensures.named
    (composes_into file.geometry file.text.items spares seq out d e c.in_ok-outcome.outcome o work h))
    c.write_outcome.ensures.answer
