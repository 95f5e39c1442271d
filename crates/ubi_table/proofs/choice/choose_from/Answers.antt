use Rattle.ubi_table.proofs.Prelude.{inl, refl, arith, blocks_of}
use Rattle.ubi_table.proofs.Deciding.{no_copies}
use Rattle.ubi_table.proofs.NoRecords.{no_space}
use Rattle.ubi_table.proofs.choice.choose_from.Goals as goal

pub returns-then-is_erased-clause-table : goal.returns-then-is_erased-clause-table
returns-then-is_erased-clause-table g c =
    let s = c.args.geometry.now in
    rw c.empty.ensures (record {
      sizes = refl;
      space = no_space s c.peb_size.ensures.limits;
      held = λ bytes holds. inl
          ((c.is_erased.ensures s (blocks_of s bytes) (c.requires.held bytes holds)).0 c.if-is_erased.true, refl);
    })

pub returns-in-None-clause-refused : goal.returns-in-None-clause-refused
returns-in-None-clause-refused g c = rw c.into.ensures (λ bytes holds.
    let s = c.args.geometry.now in
    let bs = blocks_of s bytes in
    let scan = c.requires.held bytes holds in
    let none = no_copies s bs c.args.scan.now scan (λ l. c.in-None.ensures l (omega arith)) in
    (λ all. (let is = (c.is_erased.ensures s bs scan).1 all in let not = c.if-is_erased.false in cc), none))
