use Rattle.ubi_reading.proofs.Prelude.{◌≡◌, ◌++◌, take, vec_items, flat_map, state_line}
use Rattle.ubi_reading.proofs.check.put_counts.Given as goal

abbrev pub invariant-loop-state : goal.invariant-loop-state
invariant-loop-state l = vec_items l.text ≡ vec_items l.initial.text
    ++ flat_map (state_line l.states) (take l.state-index l.named)
