use Rattle.ubi_detect.proofs.Prelude.{◌≡◌, take, ℕ, filter, map, Way, is_most_voted}
use Rattle.ubi_detect.proofs.place.most_voted.Given as goal

abbrev pub invariant-loop-i : goal.invariant-loop-i
invariant-loop-i l = (f : Way → ℕ) → l.votes ≡ map f l.ways → l.voted.items ≡ filter (is_most_voted f l.ways) (take l.i l.ways)
