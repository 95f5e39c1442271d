use Rattle.ubi_files.proofs.Prelude.{◌∙◌, ap}
use Rattle.ubi_files.proofs.PartRead.{as_far, as_read_some, raw}
use Rattle.ubi_files.proofs.whole_dump.part_read.Goals as goal

pub returns-in-Some : goal.returns-in-Some
returns-in-Some c =
    let frame = c.args.frame.now in
    ap (as_far frame.dump) (c.at_most.ensures (raw frame.dump) (rw frame.sizes at c.raw_len-most.ensures))
    ∙ as_read_some frame.dump c.in-Some.length c.in-Some.is
