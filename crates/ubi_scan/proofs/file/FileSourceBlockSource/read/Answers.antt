use Rattle.ubi_scan.proofs.Prelude.{arith}
use Rattle.ubi_scan.proofs.file.FileSourceBlockSource.read.Goals as goal

pub read_by-requires-clause-place : goal.read_by-requires-clause-place
read_by-requires-clause-place g c = omega (arith, c.requires, c.len.ensures, c.len.type_inv)
