use Rattle.ubi_files.proofs.Prelude.{◌≡◌, ◌≤◌, ◌-◌, List, length, ℕ, Consumes}
use Rattle.ubi_files.proofs.read.skip_limited.Given as goal

-- what was passed over
abbrev pub invariant-loop-skipped : goal.invariant-loop-skipped
invariant-loop-skipped g l =
    (l.skipped ≤ l.limit) × ((bytes : List ℕ) × (length bytes ≡ l.skipped)
    × Consumes (g.R.Read.remaining l.initial.reader) (g.R.Read.remaining l.reader) bytes)

abbrev pub decreases-loop-skipped : goal.decreases-loop-skipped
decreases-loop-skipped g l = l.limit - l.skipped
