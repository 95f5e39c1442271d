use Rattle.ubi_config.proofs.Groups.{IsMadeSoFar}
use Rattle.ubi_config.proofs.config.sections_of.Given as goal

abbrev pub invariant-loop-place : goal.invariant-loop-place
invariant-loop-place l = IsMadeSoFar l.said l.place l.sections.items
