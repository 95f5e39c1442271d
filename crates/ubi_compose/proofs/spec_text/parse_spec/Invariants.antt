use Rattle.ubi_compose.proofs.Prelude.{map}
use Rattle.ubi_compose.proofs.ReadSoFar.{IsReadSoFar}
use Rattle.ubi_compose.proofs.spec_text.parse_spec.Given as goal

abbrev pub invariant-loop-line : goal.invariant-loop-line
invariant-loop-line l = IsReadSoFar l.geometry l.text (map (λ x. x.now) l.yielded) l.drafts l.number
