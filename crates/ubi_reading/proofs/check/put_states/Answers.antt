use Rattle.ubi_reading.proofs.Prelude.{printed_states}
use Rattle.ubi_reading.proofs.check.put_states.Goals as goal

pub returns : goal.returns
unfolding printed_states
returns c = search
