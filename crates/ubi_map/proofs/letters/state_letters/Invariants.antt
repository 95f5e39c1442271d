use Rattle.ubi_map.proofs.Prelude.{◌≡◌, string_bytes, take, flat_map, state_letter}
use Rattle.ubi_map.proofs.letters.state_letters.Given as goal

abbrev pub invariant-loop-state : goal.invariant-loop-state
invariant-loop-state l = string_bytes l.letters ≡ flat_map state_letter (take l.state-index l.states)
