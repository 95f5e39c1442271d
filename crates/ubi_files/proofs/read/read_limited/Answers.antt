use Rattle.ubi_files.proofs.Prelude.{◌≤◌, ◌++◌, length, rules, take, vec_items, arith, Consumes-trans, Result, Ok, Err, OnErr}
use Rattle.std.proofs.Common.{length-append}
use Rattle.ubi_files.proofs.read.read_limited.Goals as goal

-- what holds anyhow holds of an error
of_error : {T E P : Type 0} (r : Result T E) → P → OnErr r P
of_error (Ok x) h = tt
of_error (Err e) h = h

pub returns-in_err-extend_from_slice-clause-taken : goal.returns-in_err-extend_from_slice-clause-taken
returns-in_err-extend_from_slice-clause-taken g c =
    let before = vec_items c.loop-left.bytes in
    let more = take c.in-Ok.count c.read.new.buf in
    let room : c.in-Ok.count ≤ c.loop-left.left = search rules in
    let few : length (before ++ more) ≤ c.args.limit =
    omega (arith, length-append before more, c.in-Ok.ensures.bound.1, c.loop-left.invariant.counted) in
    of_error c.from_residual-in_err-extend_from_slice.result
    (before ++ more, few, Consumes-trans _ _ _ before more c.loop-left.invariant.consumed c.in-Ok.ensures.bytes.0)
