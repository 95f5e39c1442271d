use Rattle.ubi_json.proofs.Alike.{refusals, sides, undetected}
use Rattle.ubi_json.proofs.laws.tell_alike.Goals as goal

pub returns : goal.returns
returns c = record { refusals = refusals; undetected = undetected; sides = sides }
