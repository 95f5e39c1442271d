use Rattle.ubi_media.proofs.Readings as readings
use Rattle.ubi_media.proofs.laws.one_ec_reading.Goals as goal

pub returns : goal.returns
returns c = λ s bytes read. readings.one_ec_reading s bytes read
