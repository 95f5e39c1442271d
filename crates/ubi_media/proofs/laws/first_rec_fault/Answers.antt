use Rattle.ubi_media.proofs.Prelude.{breaks, faults, first_fault}
use Rattle.ubi_media.proofs.First.{find-IsFirst}
use Rattle.ubi_media.proofs.laws.first_rec_fault.Goals as goal

pub returns : goal.returns
unfolding first_fault
returns c = λ s f. find-IsFirst (breaks s f) faults
