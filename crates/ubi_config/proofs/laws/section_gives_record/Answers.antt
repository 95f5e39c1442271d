use Rattle.ubi_config.proofs.GivenRecord.{section_gives_record}
use Rattle.ubi_config.proofs.laws.section_gives_record.Goals as goal

pub returns : goal.returns
returns c = section_gives_record
