use Rattle.ubi_table.proofs.OneTable.{never_table_and_fault}
use Rattle.ubi_table.proofs.laws.never_both.Goals as goal

pub returns : goal.returns
returns c = λ s bs t u clean. never_table_and_fault s bs clean t u
