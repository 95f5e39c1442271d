use Rattle.ubi_media.proofs.Headers as headers
use Rattle.ubi_media.proofs.laws.one_ec_header.Goals as goal

pub returns : goal.returns
returns c = λ s h k fits fits_too same. headers.one_ec_header s h k fits fits_too same
