use Rattle.ubi_calls.proofs.Prelude.{whole_file, Detects, printed}
use Rattle.ubi_reading.specs.declared.format.Format.TheVariants as format
use Rattle.ubi_calls.proofs.ToldOutcomes.{fills, prints}
use Rattle.ubi_calls.proofs.lines.geometry.Goals as goal

pub returns : goal.returns
returns c =
    let detects = Detects format.Text whole_file c.args.image.now in
    fills (printed detects) c.run_geometry.result (prints detects c.run_geometry.result c.run_geometry.ensures) c.hand_outcome.ensures
