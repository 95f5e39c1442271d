use Rattle.ubi_reading.proofs.Prelude.{ComparesOf, comparison_format}
use Rattle.ubi_reading.proofs.InFormat.{both_told}
use Rattle.ubi_reading.proofs.comparison.compare_files.Goals as goal

pub returns : goal.returns
returns g c =
    let how = c.args.how in
    let told = rw c.format.ensures at c.told_in.ensures in
    both_told (g.D.Disk.files c.args.disk.now) c.args.asked.now c.args.left.now c.args.right.now (ComparesOf how) (comparison_format how)
    c.compare_both-work.result c.told_in.result c.compare_both-work.ensures.answer c.compare_both-work.ensures.unread told
