use Rattle.ubi_media.proofs.Prelude.{◌≡◌, take, concat, check_from}
use Rattle.ubi_media.proofs.check.with_sixteens.Given as goal

-- the register is the check of the bytes so far
abbrev pub invariant-loop-sixteen : goal.invariant-loop-sixteen
invariant-loop-sixteen l = l.register ≡ check_from l.state (concat (take l.sixteen-index l.sixteens))
