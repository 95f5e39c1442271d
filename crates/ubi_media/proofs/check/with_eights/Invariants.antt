use Rattle.ubi_media.proofs.Prelude.{◌≡◌, take, concat, check_from}
use Rattle.ubi_media.proofs.check.with_eights.Given as goal

-- the register is the check of the bytes so far
abbrev pub invariant-loop-eight : goal.invariant-loop-eight
invariant-loop-eight l = l.register ≡ check_from l.state (concat (take l.eight-index l.eights))
