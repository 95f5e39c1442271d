-- What is taken from a reader.
use Rattle.std.specs.Prelude.{ℕ, ◌≤◌, List, Option, length}
use Rattle.std.specs.Io.KnownBytes.{Consumes}

-- known bytes lose at most this many of the first ones
abbrev pub TakesAtMost : ℕ → Option (List ℕ) → Option (List ℕ) → Type 0
TakesAtMost limit old new = (taken : List ℕ) × (length taken ≤ limit) × Consumes old new taken
