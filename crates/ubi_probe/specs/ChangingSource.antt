-- A source that answers the bytes of one image, and then those of another.
use Rattle.std.specs.Prelude.{None, ℕ}
use Rattle.ubi_scan.specs.Source.{Source}

-- what is known of it: its size, and that no read of it fails
abbrev pub changing_source : ℕ → Source
changing_source size = record { size = size; failures = 0; held = None }
