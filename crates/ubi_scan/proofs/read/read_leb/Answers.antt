use Rattle.ubi_scan.proofs.Prelude.{◌<◌, arith}
use Rattle.ubi_scan.proofs.FailedReads.{names_part}
use Rattle.ubi_scan.proofs.read.read_leb.Goals as goal

pub returns-clause-named : goal.returns-clause-named
returns-clause-named g c =
    let s = c.args.geometry.now in
    let leb = c.data_offset-2.ensures.limits.leb in
    let inside : c.data_offset-2.result < s.peb_size = rw c.data_offset-2.ensures.value (omega arith) in
    names_part s c.args.p c.data_offset-2.result _ c.read_part.result inside c.read_part.ensures.place c.read_part.ensures.names
