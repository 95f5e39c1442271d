use Rattle.ubi_volume.proofs.AcceptedOrRefused.{accepted_or_refused}
use Rattle.ubi_volume.proofs.laws.accepted_or_refused.Goals as goal

pub returns : goal.returns
returns c = accepted_or_refused
