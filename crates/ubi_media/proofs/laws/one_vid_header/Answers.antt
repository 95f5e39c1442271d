use Rattle.ubi_media.proofs.Headers as headers
use Rattle.ubi_media.proofs.laws.one_vid_header.Goals as goal

pub returns : goal.returns
returns c = λ h k fits fits_too same. headers.one_vid_header h k fits fits_too same
