use Rattle.ubi_change.proofs.Prelude.{◌≡◌, ℕ, ◌*◌, ◌<◌, false, take, crc_of, is_weak}
use Rattle.ubi_change.proofs.weak_check.weak_place.Given as goal

abbrev pub invariant-loop-k : goal.invariant-loop-k
invariant-loop-k l = (l.front ≡ crc_of (take (l.k * l.geometry.page) l.new))
    × ((j : ℕ) → j < l.k → is_weak l.geometry l.new j ≡ false)
