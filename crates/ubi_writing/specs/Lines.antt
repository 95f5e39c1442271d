-- Printed lines of counts.
use Rattle.std.specs.Prelude.{ℕ, List, ◌++◌, codes, decimal}

-- the line of a number of bytes
abbrev pub bytes_line : ℕ → List ℕ
bytes_line n = codes "bytes " ++ decimal n ++ codes "\n"

-- the line of a number of eraseblocks
abbrev pub blocks_line : ℕ → List ℕ
blocks_line n = codes "blocks " ++ decimal n ++ codes "\n"
