-- Marks of eraseblocks, by their numbers.
use Rattle.std.specs.Prelude.{ℕ, Bool, false, List, slice_get, unwrap_or}

-- whether p is listed: it has a mark, and the mark says so
abbrev pub is_listed : List Bool → ℕ → Bool
is_listed marks p = unwrap_or (slice_get marks p) false
