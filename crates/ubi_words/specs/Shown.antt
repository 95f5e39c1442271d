-- Names as they are shown.
use Rattle.std.specs.Prelude.{ℕ, ◌==◌, ◌&&◌, ◌++◌, ◌∷◌, [], List, codes, if◌then◌else◌, nat_le, not}
use Rattle.std.specs.List.{flat_map}
use Rattle.hex.specs.Hex.{encode_lower}

-- a byte of a name as it is shown: a printable one, except the backslash, as it is, and any other as its two digits
abbrev pub byte_shown : ℕ → List ℕ
byte_shown b = if nat_le 0x21 b && nat_le b 0x7E && not (b == 0x5C) then b ∷ [] else codes "\\x" ++ encode_lower (b ∷ [])

-- a name as it is shown
abbrev pub shown : List ℕ → List ℕ
shown name = flat_map byte_shown name
