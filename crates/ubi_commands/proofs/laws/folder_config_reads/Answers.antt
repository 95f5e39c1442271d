use Rattle.ubi_commands.proofs.FolderReads.{folder_config_reads}
use Rattle.ubi_commands.proofs.laws.folder_config_reads.Goals as goal

pub returns : goal.returns
returns c = folder_config_reads
