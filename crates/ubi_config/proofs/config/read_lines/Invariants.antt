use Rattle.std.proofs.Common.{map}
use Rattle.ubi_config.proofs.ReadSoFar.{IsReadSoFar}
use Rattle.ubi_config.proofs.config.read_lines.Given as goal

abbrev pub invariant-loop-line : goal.invariant-loop-line
invariant-loop-line l = IsReadSoFar l.text (map (λ x. x.now) l.yielded) l.said.items l.number
