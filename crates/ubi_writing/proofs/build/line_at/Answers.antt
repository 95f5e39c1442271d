use Rattle.ubi_writing.proofs.Prelude.{arith, suc, sym}
use Rattle.ubi_writing.proofs.build.line_at.Goals as goal

pub returns-in-Some : goal.returns-in-Some
returns-in-Some c =
    let len = c.args.lines.ok.0 in
    let inside = c.if-place-len.true in
    let is = c.len.ensures in
    (suc c.in-Some.place, omega (arith, len, inside, is), sym c.swap_remove.ensures.value)
