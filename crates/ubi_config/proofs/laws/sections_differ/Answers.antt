use Rattle.ubi_config.proofs.SectionsDiffer.{sections_differ}
use Rattle.ubi_config.proofs.laws.sections_differ.Goals as goal

pub returns : goal.returns
returns c = sections_differ
