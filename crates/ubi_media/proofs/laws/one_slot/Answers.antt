use Rattle.ubi_media.proofs.RecordBytes as bytes
use Rattle.ubi_media.proofs.laws.one_slot.Goals as goal

pub returns : goal.returns
returns c = λ s h k fits fits_too same. bytes.one_slot s h k fits fits_too same
