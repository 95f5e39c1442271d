use Rattle.ubi_files.proofs.Prelude.{◌+◌, ◌++◌, ◌≤◌, arith, rules, take, Consumes-trans, length-take-le}
use Rattle.std.proofs.Common.{length-append}
use Rattle.ubi_files.proofs.read.skip_limited.Goals as goal

pub loop-skipped-preserved : goal.loop-skipped-preserved
loop-skipped-preserved g c =
    let before = c.loop-skipped.invariant.1.0 in
    let more = take c.in-Ok.count c.read.new.buf in
    let room : c.loop-skipped.skipped + c.in-Ok.count ≤ c.args.limit = search rules in
    let count = length-take-le c.in-Ok.count c.read.new.buf c.in-Ok.ensures.bound.0 in (
      room,
      (
        before ++ more,
        omega (arith, length-append before more, count, c.loop-skipped.invariant.1.1),
        Consumes-trans _ _ _ before more c.loop-skipped.invariant.1.2 c.in-Ok.ensures.bytes.0,
      ),
    )
