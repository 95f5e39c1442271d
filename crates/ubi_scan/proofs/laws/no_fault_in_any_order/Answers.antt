use Rattle.ubi_scan.proofs.BlocksReordered.{no_fault_in_any_order}
use Rattle.ubi_scan.proofs.laws.no_fault_in_any_order.Goals as goal

pub returns : goal.returns
returns c = no_fault_in_any_order
