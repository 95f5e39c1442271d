use Rattle.ubi_files.proofs.PartRead.{is_read_of}
use Rattle.ubi_files.proofs.whole_dump.read_seen.Goals as goal

pub returns : goal.returns
returns g c =
    let frame = c.args.frame.now in
    let most = rw frame.sizes at c.raw_len-most.ensures in
    is_read_of (g.D.Disk.files c.args.disk.now) frame.dump c.args.path.now _ c.raw_len-most.result c.read_part.result most
    c.in_ok-whole.ensures.named c.read_part.ensures.bytes c.read_part.ensures.len
