-- Numbers in decimal digits.
use Rattle.std.specs.Prelude.{ℕ, ◌+◌, ◌-◌, ◌*◌, ◌==◌, ◌&&◌, ◌||◌, Bool, not, nat_le, List, Option, fold, length, slice_index}
use Rattle.std.specs.Bool.{then_some}
use Rattle.std.specs.Char.{is_ascii_digit}
use Rattle.std.specs.List.{list_all}

-- a number with one more decimal digit after it
abbrev pub with_digit : ℕ → ℕ → ℕ
with_digit n b = n * 10 + (b - 48)

-- the number that decimal digits stand for, the highest first
abbrev pub decimal_value : List ℕ → ℕ
decimal_value digits = fold with_digit 0 digits

-- the same for bytes that may be digits: none if one isn't, or if the number is above the largest
abbrev pub decimal_within : ℕ → List ℕ → Option ℕ
decimal_within largest digits = then_some (list_all is_ascii_digit digits && nat_le (decimal_value digits) largest) (decimal_value digits)

-- the greatest number of 32 bits
abbrev pub most_number : ℕ
most_number = 0xFFFF_FFFF

-- `0`, or decimal digits that don't begin with one; no more than the largest
unfoldable pub is_number : ℕ → List ℕ → Bool
is_number largest word =
    nat_le 1 (length word) && ((length word == 1) || not (slice_index word 0 == 48))
    && (list_all is_ascii_digit word && nat_le (decimal_value word) largest)

-- the number that a word stands for
unfoldable pub number_within : ℕ → List ℕ → Option ℕ
number_within largest word = then_some (is_number largest word) (decimal_value word)
