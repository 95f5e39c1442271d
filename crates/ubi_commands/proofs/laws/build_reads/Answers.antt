use Rattle.ubi_commands.proofs.BuildReads.{build_reads}
use Rattle.ubi_commands.proofs.laws.build_reads.Goals as goal

pub returns : goal.returns
returns c = build_reads
