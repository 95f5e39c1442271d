-- What a source of which nothing is known may hold.
use Rattle.std.specs.Prelude.{None, ℕ}
use Rattle.ubi_scan.specs.Source.{Agreed, Source}

-- a source of a size whose reads never failed, and which is promised to hold nothing
abbrev pub sound : ℕ → Source
sound size = record { size = size; failures = 0; held = None }

-- a source that may hold anything
abbrev pub anything : Agreed
anything = λ held. Unit {0}
