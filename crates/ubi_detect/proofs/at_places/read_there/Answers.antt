use Rattle.ubi_detect.proofs.Prelude.{◌≡◌, ◌+◌, length, sym, arith, lt-leb}
use Rattle.ubi_detect.proofs.at_places.read_there.Goals as goal

pub returns-then-saturating_add-len-clause-there : goal.returns-then-saturating_add-len-clause-there
returns-then-saturating_add-len-clause-there g c = λ bytes holds.
    let sized : length bytes ≡ (g.S.BlockSource.known c.args.source.now).size =
    (g.met.S.BlockSource.sized c.args.source.now).sized bytes holds in
    sym (lt-leb (c.args.at + length c.args.out.now) (length bytes)
    (omega (arith, sized, c.saturating_add.ensures, c.len.ensures, c.if-saturating_add-len.true, c.requires.size)))
