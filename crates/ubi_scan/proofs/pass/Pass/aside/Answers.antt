use Rattle.ubi_scan.proofs.Tops.{none_above}
use Rattle.ubi_scan.proofs.pass.Pass.aside.Goals as goal

pub returns-then-sqnum-top : goal.returns-then-sqnum-top
returns-then-sqnum-top c =
    none_above c.args.self.now.others c.args.leb c.args.sqnum c.args.top c.requires c.if-sqnum-top.true
