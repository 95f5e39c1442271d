use Rattle.ubi_compose.proofs.BuiltReads.{built_reads}
use Rattle.ubi_compose.proofs.laws.built_reads.Goals as goal

pub returns : goal.returns
returns c = λ ps bytes p h reaches listed. built_reads ps bytes p h reaches listed
