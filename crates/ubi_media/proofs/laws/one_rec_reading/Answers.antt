use Rattle.ubi_media.proofs.Records as records
use Rattle.ubi_media.proofs.laws.one_rec_reading.Goals as goal

pub returns : goal.returns
returns c = λ s bytes read. records.one_rec_reading s bytes read
