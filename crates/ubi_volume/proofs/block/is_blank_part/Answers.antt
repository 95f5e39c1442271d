use Rattle.ubi_volume.proofs.Prelude.{rules, ◌≡◌, ◌≢◌, ◌+◌, ◌<◌, ◌≤◌, ap, arith, length, sym, ◌∙◌, drop, nat_tests, is_blank, block, blocks_of, names_part}
use Rattle.ubi_volume.proofs.Blanks.{front_holds, part_first, part_is, rest_holds, rest_of_leb, whole_front}
use Rattle.ubi_volume.proofs.block.is_blank_part.Goals as goal

pub returns-then-not-is_blank-clause-blank : goal.returns-then-not-is_blank-clause-blank
returns-then-not-is_blank-clause-blank g c = λ bytes holds.
    let b = block (blocks_of c.args.geometry.now bytes) c.args.p in
    let n = length c.args.buffer.now in
    let a = length c.split_at_mut-first.result.0.now in
    let short : a ≤ n = omega (arith, c.split_at_mut-first.ensures.front_len, c.min-front.ensures) in
    sym (ap is_blank (part_is b c.args.start n)
    ∙ front_holds (drop c.args.start b) c.read_part.new.out n a short
    (part_first b c.read_part.new.out c.args.start a (c.in_ok-read_part.ensures.bytes bytes holds)) (sym c.if-not-is_blank.ensures))

pub returns-then-is_empty-clause-blank : goal.returns-then-is_empty-clause-blank
returns-then-is_empty-clause-blank g c = λ bytes holds.
    let b = block (blocks_of c.args.geometry.now bytes) c.args.p in
    let n = length c.args.buffer.now in
    let a = length c.split_at_mut-first.result.0.now in
    let none : length c.split_at_mut-first.result.1.now ≡ 0 = grind (arith, nat_tests, sym c.if-is_empty.ensures) in
    let short : a ≤ n = omega (arith, c.split_at_mut-first.ensures.front_len, c.min-front.ensures) in
    let all : a ≡ n = omega (
      arith,
      c.split_at_mut-first.ensures.front_len,
      c.split_at_mut-first.ensures.back_len,
      c.min-front.ensures,
      none,
    ) in
    sym (ap is_blank (part_is b c.args.start n)
    ∙ whole_front (drop c.args.start b) c.read_part.new.out n a short
    (part_first b c.read_part.new.out c.args.start a (c.in_ok-read_part.ensures.bytes bytes holds)) all ∙ sym c.if-not-is_blank.ensures)

pub returns-clause-blank : goal.returns-clause-blank
returns-clause-blank g c = λ bytes holds.
    let b = block (blocks_of c.args.geometry.now bytes) c.args.p in
    let n = length c.args.buffer.now in
    let a = length c.split_at_mut-first.result.0.now in
    let short : a ≤ n = omega (arith, c.split_at_mut-first.ensures.front_len, c.min-front.ensures) in
    let first = part_first b c.read_part.new.out c.args.start a
    (c.in_ok-read_part.ensures.bytes bytes (c.in_ok-read_part-2.ensures.narrows bytes holds)) in
    let rest = rest_of_leb b c.read_part-2.new.out c.args.start a _ n _
    (omega (arith, c.split_at_mut-first.ensures.front_len, c.min-front.ensures))
    (omega (arith, c.split_at_mut-first.ensures.front_len, c.split_at_mut-first.ensures.back_len, c.min-front.ensures))
    (c.in_ok-read_part-2.ensures.bytes bytes holds) in
    c.is_blank-2.ensures
    ∙ sym (ap is_blank (part_is b c.args.start n)
    ∙ rest_holds (drop c.args.start b) c.read_part.new.out n a short first c.read_part-2.new.out (sym c.if-not-is_blank.ensures) rest)

pub returns-in_err-read_part-clause-named : goal.returns-in_err-read_part-clause-named
returns-in_err-read_part-clause-named g c = λ inside.
    names_part c.args.geometry.now c.args.p c.args.start _ c.from_residual.result inside (search rules) (search rules)

pub returns-in_err-read_part-2-clause-named : goal.returns-in_err-read_part-2-clause-named
returns-in_err-read_part-2-clause-named g c = λ inside.
    let some : length c.split_at_mut-first.result.1.now ≢ 0 = grind (arith, nat_tests, sym c.if-is_empty.ensures) in
    let within : c.args.start + c.min-front.result < c.args.geometry.now.peb_size = omega (
      arith,
      c.requires.part,
      c.split_at_mut-first.ensures.back_len,
      some,
    ) in
    names_part c.args.geometry.now c.args.p _ _ c.from_residual-in_err-read_part-2.result within (search rules) (search rules)
