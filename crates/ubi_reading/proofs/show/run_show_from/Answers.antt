use Rattle.ubi_reading.proofs.Prelude.{arith, source_narrowed, no_block_from, no_size, shown_from}
use Rattle.ubi_reading.proofs.ShownLines.{of_block, of_no_block, of_size}
use Rattle.ubi_reading.proofs.show.run_show_from.Goals as goal

pub returns-in-Err-clause-shown : goal.returns-in-Err-clause-shown
returns-in-Err-clause-shown g c =
    no_size c.in-Err.cause (rw c.len.ensures at c.in-Err.ensures) (rw c.in_ok-refusal_line-in-Err.ensures at c.saying.ensures)

pub returns-in-Err-clause-shows : goal.returns-in-Err-clause-shows
returns-in-Err-clause-shows g c = λ bytes holds.
    of_size c.args.geometry.now _ _ (g.met.S.BlockSource.sized c.args.source.now) bytes holds c.args.p c.saying.result
    c.in-Err.cause (rw c.len.ensures at c.in-Err.ensures) (rw c.in_ok-refusal_line-in-Err.ensures at c.saying.ensures)

pub returns-then-p-count-clause-shown : goal.returns-then-p-count-clause-shown
returns-then-p-count-clause-shown g c =
    let h = rw c.len.ensures at c.in-Ok.ensures in
    no_block_from h.1 (rw h.0 at c.if-p-count.true) (rw c.in_ok-no_block_line.ensures at c.saying-then-p-count.ensures)

pub returns-then-p-count-clause-shows : goal.returns-then-p-count-clause-shows
returns-then-p-count-clause-shows g c = λ bytes holds.
    let h = rw c.len.ensures at c.in-Ok.ensures in
    of_no_block c.args.geometry.now _ _ (g.met.S.BlockSource.sized c.args.source.now) bytes holds c.args.p
    c.saying-then-p-count.result h.1 (rw h.0 at c.if-p-count.true)
    (rw c.in_ok-no_block_line.ensures at c.saying-then-p-count.ensures)

pub returns-clause-shown : goal.returns-clause-shown
returns-clause-shown g c =
    let h = rw c.len.ensures at c.in-Ok.ensures in
    shown_from c.in_ok-block_lines.field-0.items h.1 (let e = h.0 in omega (arith, e, c.if-p-count.false)) c.in_ok-block_lines.ensures.form
    c.saying-2.ensures

pub returns-clause-shows : goal.returns-clause-shows
returns-clause-shows g c = λ bytes holds.
    let h = rw c.len.ensures at c.in-Ok.ensures in
    let known = g.S.BlockSource.known c.args.source.now in
    let agrees = g.S.BlockSource.agrees c.block_lines.new.source in
    of_block c.args.geometry.now known agrees
    (source_narrowed known _ agrees c.in_ok-block_lines.ensures.narrows (g.met.S.BlockSource.sized c.args.source.now)) bytes
    holds c.args.p c.saying-2.result h.1 (let e = h.0 in omega (arith, e, c.if-p-count.false))
    (rw (c.in_ok-block_lines.ensures.lines bytes holds) at c.saying-2.ensures)
