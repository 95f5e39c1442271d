use Rattle.ubi_media.proofs.Prelude.{sym}
use Rattle.ubi_media.proofs.Checks.{check_from-append}
use Rattle.ubi_media.proofs.laws.check_goes_on.Goals as goal

pub returns : goal.returns
returns c = λ state xs ys h. sym (check_from-append state xs ys h)
