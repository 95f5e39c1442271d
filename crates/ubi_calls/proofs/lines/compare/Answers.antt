use Rattle.ubi_calls.proofs.Prelude.{still}
use Rattle.ubi_calls.proofs.lines.compare.Goals as goal

pub returns-in-Ok : goal.returns-in-Ok
returns-in-Ok c =
    let here = rw c.new-here.ensures at c.in-Ok.ensures.left_narrows in
    let there = rw c.new-there.ensures at c.in-Ok.ensures.right_narrows in
    c.in-Ok.ensures.compares c.args.left.now (still c.args.left.now c.answer.new.left here) c.args.right.now
    (still c.args.right.now c.answer.new.right there)
