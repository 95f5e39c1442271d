use Rattle.ubi_json.proofs.Prelude.{◌≡◌, take, count_by, same_state}
use Rattle.ubi_json.proofs.check.count_of.Given as goal

abbrev pub invariant-loop-state : goal.invariant-loop-state
invariant-loop-state l = l.found ≡ count_by (λ s. same_state s l.of) (take l.state-index l.states)
