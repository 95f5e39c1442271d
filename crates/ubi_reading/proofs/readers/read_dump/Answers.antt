use Rattle.ubi_reading.proofs.Prelude.{reads, format_of}
use Rattle.ubi_reading.proofs.InFormat.{file_told}
use Rattle.ubi_reading.proofs.readers.read_dump.Goals as goal

pub returns : goal.returns
returns g c =
    let command = c.args.command.now in
    let told = rw c.format.ensures at c.told_in.ensures in
    file_told (g.D.Disk.files c.args.disk.now) c.args.image.now (reads command) (format_of command) c.args.known.dump
    c.answer_dump-work.result c.told_in.result c.answer_dump-work.ensures.answer c.answer_dump-work.ensures.unread told
