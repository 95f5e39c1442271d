use Rattle.ubi_scan.proofs.OneScan.{one_scan}
use Rattle.ubi_scan.proofs.laws.one_scan.Goals as goal

pub returns : goal.returns
returns c = one_scan
