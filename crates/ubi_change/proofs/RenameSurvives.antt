-- The law: the plan of a rename of an attached image, with nothing against it, survives every cut, and leaves both
-- copies good, since it is a commit.
use Rattle.ubi_change.proofs.Prelude.{RenameSurvives}
use Rattle.ubi_change.proofs.PlanPremises.{shown}
use Rattle.ubi_change.proofs.RenameCommits.{rename_both, rename_survives}

pub rename_law : RenameSurvives
rename_law image a id name g att may =
    let k = shown image a att in (rename_survives image g a k id name may, rename_both image g a k id name may)
