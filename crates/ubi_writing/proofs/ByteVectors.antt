-- Numbers of bytes, on literals.
use Rattle.ubi_writing.proofs.Prelude.{◌≡◌, Some, refl, byte_number, bytes_within, most_bytes, unit_named, None, most_number}
use Rattle.std.proofs.Common.{codes}

-- ---- decimal digits

decimal : byte_number (codes "131072") ≡ Some 131072
decimal = refl

with_plus_and_zeros : byte_number (codes "+000512") ≡ Some 512
with_plus_and_zeros = refl

zero : byte_number (codes "0") ≡ Some 0
zero = refl

-- ---- with a unit

kibibytes : byte_number (codes "128KiB") ≡ Some 131072
unfolding unit_named
kibibytes = refl

mebibytes : byte_number (codes "+08MiB") ≡ Some 8388608
unfolding unit_named
mebibytes = refl

gibibytes : byte_number (codes "4GiB") ≡ Some 4294967296
unfolding unit_named
gibibytes = refl

-- ---- hexadecimal digits

hexadecimal : byte_number (codes "0x20000") ≡ Some 131072
hexadecimal = refl

in_both_cases : byte_number (codes "0xDeadBeef") ≡ Some 3735928559
in_both_cases = refl

-- ---- words that are no number of bytes

empty_word : byte_number (codes "") ≡ None
empty_word = refl

unit_alone : byte_number (codes "KiB") ≡ None
unit_alone = refl

no_digits : byte_number (codes "0x") ≡ None
no_digits = refl

capital_x : byte_number (codes "0X10") ≡ None
unfolding unit_named
capital_x = refl

hexadecimal_with_plus : byte_number (codes "+0x10") ≡ None
unfolding unit_named
hexadecimal_with_plus = refl

hexadecimal_with_unit : byte_number (codes "0x10KiB") ≡ None
hexadecimal_with_unit = refl

fraction : byte_number (codes "1.5MiB") ≡ None
unfolding unit_named
fraction = refl

negative : byte_number (codes "-1") ≡ None
negative = refl

small_letters : byte_number (codes "128kib") ≡ None
unfolding unit_named
small_letters = refl

gap : byte_number (codes "128 KiB") ≡ None
unfolding unit_named
gap = refl

-- ---- up to the largest of 32 bits, and of 63

largest_size : bytes_within most_number (codes "4294967295") ≡ Some 4294967295
largest_size = refl

larger_size : bytes_within most_number (codes "4GiB") ≡ None
unfolding unit_named
larger_size = refl

largest_place : bytes_within most_bytes (codes "0x7fffffffffffffff") ≡ Some 9223372036854775807
largest_place = refl

larger_place : bytes_within most_bytes (codes "8589934592GiB") ≡ None
unfolding unit_named
larger_place = refl
