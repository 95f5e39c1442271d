use Rattle.ubi_detect.proofs.Prelude.{◌≡◌, take, fold, max}
use Rattle.ubi_detect.proofs.place.greatest.Given as goal

abbrev pub invariant-loop-number : goal.invariant-loop-number
invariant-loop-number l = l.greatest ≡ fold max 0 (take l.number-index l.numbers)
