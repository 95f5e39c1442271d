-- Numbers of bytes, as words of the command line: decimal digits, which a unit may follow, or hexadecimal ones after `0x`.
use Rattle.std.specs.Prelude.{ℕ, ◌+◌, ◌*◌, ◌==◌, ◌&&◌, Bool, nat_le, if◌then◌else◌, List, drop, fold, length, Option, Some, option_and_then, option_map, slice_index, take}
use Rattle.std.specs.Bool.{then_some}
use Rattle.std.specs.Char.{digit_value, is_ascii_digit, is_digit}
use Rattle.std.specs.List.{list_all, position_or_len}
use Rattle.std.specs.Str.Parse.{without_leading_plus}
use Rattle.ubi_config.specs.Words.{is_no_digit, unit_named}
use Rattle.ubi_words.specs.Words.{decimal_value}

-- a number with one more hexadecimal digit after it, a letter in either case
abbrev pub with_hexadecimal : ℕ → ℕ → ℕ
with_hexadecimal n b = n * 16 + digit_value b

-- the number that hexadecimal digits stand for, the highest first
abbrev pub hexadecimal_value : List ℕ → ℕ
hexadecimal_value digits = fold with_hexadecimal 0 digits

-- hexadecimal digits, at least one, as their number
abbrev pub hexadecimal_number : List ℕ → Option ℕ
hexadecimal_number digits =
    then_some (nat_le 1 (length digits) && list_all (λ b. is_digit b 16) digits) (hexadecimal_value digits)

-- decimal digits, at least one, as their number
abbrev pub decimal_number : List ℕ → Option ℕ
decimal_number digits = then_some (nat_le 1 (length digits) && list_all is_ascii_digit digits) (decimal_value digits)

-- how many bytes the unit after a number is: `KiB`, `MiB` or `GiB`, or one byte if nothing follows
abbrev pub unit_after : List ℕ → Option ℕ
unit_after rest = if length rest == 0 then Some 1 else unit_named rest

-- decimal digits with their unit right behind them, as a number of bytes
abbrev pub bytes_in_units : List ℕ → Option ℕ
bytes_in_units word =
    let digits = position_or_len is_no_digit word in
    option_and_then (λ n. option_map (λ unit. n * unit) (unit_after (drop digits word))) (decimal_number (take digits word))

-- whether a word begins with `0x`
abbrev pub is_hexadecimal : List ℕ → Bool
is_hexadecimal word = (slice_index word 0 == 48) && (slice_index word 1 == 120)

-- the number of bytes that a word stands for; before decimal digits a plus may stand
abbrev pub byte_number : List ℕ → Option ℕ
byte_number word =
    if is_hexadecimal word then hexadecimal_number (drop 2 word) else bytes_in_units (without_leading_plus word)

-- a number, if it is no more than the largest
abbrev pub at_most : ℕ → Option ℕ → Option ℕ
at_most largest number = option_and_then (λ n. then_some (nat_le n largest) n) number

-- the number of bytes that a word stands for, if it is no more than the largest
abbrev pub bytes_within : ℕ → List ℕ → Option ℕ
bytes_within largest word = at_most largest (byte_number word)
