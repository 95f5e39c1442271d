-- What files that are read as one hold.
use Rattle.std.specs.Prelude.{ℕ, List, [], ◌∷◌, ◌++◌, Option, Some, option_and_then, option_map}

-- the bytes of files in a row, in order, if those of each are known
abbrev pub row_bytes : List (Option (List ℕ)) → Option (List ℕ)
row_bytes [] = Some []
row_bytes (held ∷ rest) = option_and_then (λ bytes. option_map (λ more. bytes ++ more) (row_bytes rest)) held
