use Rattle.ubi_compare.proofs.Prelude.{on_ok_weaker}
use Rattle.ubi_compare.proofs.Ranged.{adds_leb}
use Rattle.ubi_compare.proofs.texts.add_asked.Goals as goal

pub returns : goal.returns
returns c =
    on_ok_weaker c.add.result (adds_leb c.args.is_brief c.args.lnum c.args.ranges.now c.add.new.self) c.add.ensures
