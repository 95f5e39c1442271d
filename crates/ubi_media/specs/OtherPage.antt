-- Sizes with another page size.
use Rattle.std.specs.Prelude.{ℕ}
use Rattle.ubi_media.specs.Geometry.{Sizes}

-- the same sizes except for the page
abbrev pub with_page : Sizes → ℕ → Sizes
with_page s page = record s { page = page }
