use Rattle.ubi_change.proofs.EditsAllowed.{edits_are_allowed}
use Rattle.ubi_change.proofs.laws.edits_are_allowed.Goals as goal

pub returns : goal.returns
returns c = edits_are_allowed
