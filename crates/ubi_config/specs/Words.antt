-- The words of a config: blanks, numbers, and sizes with a unit.
use Rattle.std.specs.Prelude.{ℕ, ◌-◌, ◌*◌, ◌==◌, ◌&&◌, ◌||◌, Bool, not, nat_le, if◌then◌else◌, List, codes, drop, length, Option, Some, None, option_and_then, slice_index, take}
use Rattle.std.specs.Bool.{then_some}
use Rattle.std.specs.Char.{is_ascii_digit}
use Rattle.std.specs.List.{position_or_len, suffix_len}
use Rattle.ubi_media.specs.Fields.{same_bytes}
use Rattle.ubi_words.specs.Words.{number_within}

-- a blank: a space, or a byte from 0x09 to 0x0D
abbrev pub is_space : ℕ → Bool
is_space b = (b == 32) || (nat_le 9 b && nat_le b 13)

-- a byte that isn't a blank
abbrev pub is_visible : ℕ → Bool
is_visible b = not (is_space b)

-- bytes without the blanks before them
abbrev pub trimmed_start : List ℕ → List ℕ
trimmed_start bytes = drop (position_or_len is_visible bytes) bytes

-- bytes without the blanks after them
abbrev pub trimmed_end : List ℕ → List ℕ
trimmed_end bytes = take (length bytes - suffix_len is_space bytes) bytes

-- bytes without the blanks at both ends
unfoldable pub trimmed : List ℕ → List ℕ
trimmed bytes = trimmed_end (trimmed_start bytes)

-- whether bytes end with a byte
abbrev pub ends_with_byte : ℕ → List ℕ → Bool
ends_with_byte b bytes = nat_le 1 (length bytes) && (slice_index bytes (length bytes - 1) == b)

-- how many bytes a volume may have at most
abbrev pub most_bytes : ℕ
most_bytes = 0x7FFF_FFFF_FFFF_FFFF

-- what may not stand between a number and its unit: anything but spaces and tabs
abbrev pub is_no_gap : ℕ → Bool
is_no_gap b = not ((b == 32) || (b == 9))

-- a byte that isn't a decimal digit
abbrev pub is_no_digit : ℕ → Bool
is_no_digit b = not (is_ascii_digit b)

-- how many bytes a unit is
unfoldable pub unit_named : List ℕ → Option ℕ
unit_named name =
    if same_bytes name (codes "KiB") then Some 1024
    else (if same_bytes name (codes "MiB") then Some 1048576
    else (if same_bytes name (codes "GiB") then Some 1073741824 else None))

-- how many bytes the unit after a number is: one, if there is no unit
unfoldable pub unit_of : List ℕ → Option ℕ
unit_of rest = if length rest == 0 then Some 1 else unit_named (drop (position_or_len is_no_gap rest) rest)

-- a number of units in bytes: at least one, and not too many
abbrev pub size_in : ℕ → ℕ → Option ℕ
size_in unit n = then_some (nat_le 1 (n * unit) && nat_le (n * unit) most_bytes) (n * unit)

-- how many bytes a number and its unit stand for
unfoldable pub size_of : List ℕ → Option ℕ
size_of word =
    let digits = position_or_len is_no_digit word in
    option_and_then (λ n. option_and_then (λ unit. size_in unit n) (unit_of (drop digits word)))
    (number_within most_bytes (take digits word))
