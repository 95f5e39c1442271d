use Rattle.ubi_media.proofs.Prelude.{sym, subst, IsRemainder}
use Rattle.ubi_media.proofs.Quotient as quotient
use Rattle.ubi_media.proofs.laws.one_remainder.Goals as goal

pub returns : goal.returns
returns c = λ k p r below.
    let left = quotient.remainder-IsRemainder k p below in
    (λ h. quotient.one_remainder p r _ h left, λ e. subst (IsRemainder p) (sym e) left)
