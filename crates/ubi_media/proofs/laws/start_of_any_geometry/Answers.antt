use Rattle.ubi_media.proofs.Starts.{blank_starts, valid_starts}
use Rattle.ubi_media.proofs.laws.start_of_any_geometry.Goals as goal

pub returns : goal.returns
returns c = record { named = valid_starts; blank = blank_starts }
