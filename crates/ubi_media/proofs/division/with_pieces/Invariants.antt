use Rattle.ubi_media.proofs.Prelude.{take, concat, check_from, Carries}
use Rattle.ubi_media.proofs.division.with_pieces.Given as goal

-- what is carried stands for the check of the bytes so far
abbrev pub invariant-loop-piece : goal.invariant-loop-piece
invariant-loop-piece l = Carries l.quotient (check_from l.state (concat (take l.piece-index l.before)))
