use Rattle.ubi_table.proofs.Prelude.{◌<◌, subst, arith, blocks_of, space, CopyIs}
use Rattle.ubi_table.proofs.choice.decided.Goals as goal

pub returns-then-space-from-clause-refused : goal.returns-then-space-from-clause-refused
returns-then-space-from-clause-refused g c =
    let s = c.args.geometry.now in
    let number = c.pebs.ensures.value in
    let wide = c.from.ensures in
    let sum = c.space.ensures in
    let big : s.pebs < space c.in-Good.table = omega arith in
    rw c.into-then-space-from.ensures
    (λ bytes holds. (
      c.in-Good.table,
      subst (CopyIs s (blocks_of s bytes) c.args.c) c.in-Good.is
          (c.in_ok-read_copy_from.ensures.copy bytes holds),
      big,
    ))
