use Rattle.ubi_compare.proofs.Prelude.{◌≤◌, length, sym, take, arith, length-take-le, leb_size}
use Rattle.ubi_compare.proofs.pieces.pieces_beside.Goals as goal

pub returns-then-are_checked-clause-read : goal.returns-then-are_checked-clause-read
returns-then-are_checked-clause-read g c = λ x xs y ys.
    let s = c.args.geometry.now in
    let one = c.raw_piece_from.new.buffer in
    let other = c.raw_piece_from-2.new.buffer in
    let n = c.in-Ok-Some.raw.size in
    let m = c.in-Ok-Some-raw_piece_from.raw.size in
    let few : n ≤ leb_size s = rw c.in-Ok-Some.field-0-is at c.in-Ok-Some.ensures.fits in
    let most : m ≤ leb_size s = rw c.in-Ok-Some-raw_piece_from.field-0-is at c.in-Ok-Some-raw_piece_from.ensures.fits in
    let inside : n ≤ length one = omega (arith, few) in
    let within : m ≤ length other = omega (arith, most) in
    let held = rw c.in-Ok-Some.field-0-is at (c.in-Ok-Some.ensures.held x xs) in
    let beside = rw c.in-Ok-Some-raw_piece_from.field-0-is at (c.in-Ok-Some-raw_piece_from.ensures.held y ys) in
    let checked = c.are_checked.ensures.0 c.if-are_checked.true in
    record {
      one = take n one;
      other = take m other;
      left = held.0 checked.0;
      right = beside.0 checked.1;
      left_len = sym (length-take-le n one inside);
      right_len = sym (length-take-le m other within);
      same = c.are_equal-is_same.ensures;
    }
