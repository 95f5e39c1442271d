use Rattle.ubi_config.proofs.WrittenReads.{written_reads}
use Rattle.ubi_config.proofs.laws.written_reads.Goals as goal

pub returns : goal.returns
returns c = written_reads
