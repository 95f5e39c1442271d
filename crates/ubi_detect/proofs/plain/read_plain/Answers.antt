use Rattle.ubi_detect.proofs.Prelude.{◌∙◌, sym, arith}
use Rattle.ubi_detect.proofs.PlainGroups.{has_first, long_enough, no_group, plain_group}
use Rattle.ubi_detect.proofs.plain.read_plain.Goals as goal

pub returns-then-len-clause-plain : goal.returns-then-len-clause-plain
returns-then-len-clause-plain g c = λ bytes holds.
    let sized = (g.met.S.BlockSource.sized c.args.source.now).sized bytes holds in
    long_enough bytes (let e = c.len-len.ensures in omega (arith, c.if-len.true, sized, e))

pub returns-in_default-clause-plain : goal.returns-in_default-clause-plain
returns-in_default-clause-plain g c = λ bytes holds. has_first bytes (sym (c.in_ok-first.ensures.key bytes holds) ∙ c.in_default.is)

pub returns-in_default-3-clause-plain : goal.returns-in_default-3-clause-plain
returns-in_default-3-clause-plain g c = λ bytes holds.
    let size = rw c.in-Some-2.is at c.in_ok-size.ensures.plain in
    let none = rw c.in_default-3.is at c.in_ok-key.ensures.joined in
    let after = c.in_ok-key.ensures.source.narrows bytes holds in
    let sized = (g.met.S.BlockSource.sized c.args.source.now).sized bytes (c.in_ok-first.ensures.source.narrows bytes (c.in_ok-size.ensures.source.narrows bytes after)) in
    no_group bytes c.len-len.result c.in-Some-2.size (sized ∙ sym c.len-len.ensures) (size bytes after) (none bytes holds)

pub returns-clause-plain : goal.returns-clause-plain
returns-clause-plain g c = λ bytes holds.
    let size = rw c.in-Some-2.is at c.in_ok-size.ensures.plain in
    let joined = rw c.in-Some-3.is at c.in_ok-key.ensures.joined in
    let after = c.in_ok-key.ensures.source.narrows bytes holds in
    let sized = (g.met.S.BlockSource.sized c.args.source.now).sized bytes (c.in_ok-first.ensures.source.narrows bytes (c.in_ok-size.ensures.source.narrows bytes after)) in
    plain_group bytes c.len-len.result c.in-Some-2.size (sized ∙ sym c.len-len.ensures) (size bytes after) c.in-Some-3.key (joined bytes holds)
