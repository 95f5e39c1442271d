-- The words of the composer's text: numbers, hexadecimal bytes, kinds, and names as they are shown.
use Rattle.std.specs.Prelude.{ℕ, ◌+◌, ◌*◌, ◌==◌, ◌&&◌, Bool, not, nat_le, if◌then◌else◌, List, [], ◌∷◌, ◌++◌, codes, drop, flat_map, length, Option, Some, None, is_some, option_and_then, option_map, slice_index, unwrap_or}
use Rattle.std.specs.Bool.{then_some}
use Rattle.std.specs.List.{list_all, slice_split}
use Rattle.std.specs.Result.{result_ok}
use Rattle.hex.specs.Hex.{decode_of, hex_digit_value}
use Rattle.ubi_media.specs.Fields.{same_bytes}
use Rattle.ubi_media.specs.Name.{is_name}
use Rattle.ubi_media.specs.declared.vid.VolKind.{VolKind}
use Rattle.ubi_media.specs.declared.vid.VolKind.TheVariants as kind

-- whether a byte lies between two, or is one of them
abbrev pub is_between : ℕ → ℕ → ℕ → Bool
is_between low high b = nat_le low b && nat_le b high

-- one or more pairs of hexadecimal digits of either case
unfoldable pub hex_of : List ℕ → Option (List ℕ)
hex_of word = if length word == 0 then None else result_ok (decode_of word)

-- the byte of exactly one pair of digits
abbrev pub only_byte : List ℕ → Option ℕ
only_byte bytes = then_some (length bytes == 1) (slice_index bytes 0)

-- the flags of a volume: one byte
unfoldable pub flags_of : List ℕ → Option ℕ
flags_of word = option_and_then only_byte (hex_of word)

-- the kind of a volume: `dynamic` or `static`
unfoldable pub kind_named : List ℕ → Option VolKind
kind_named word =
    if same_bytes word (codes "dynamic") then Some kind.Dynamic
    else (if same_bytes word (codes "static") then Some kind.Static else None)

-- a byte that is shown as it is
abbrev pub is_plain : ℕ → Bool
is_plain b = is_between 0x21 0x7E b && not (b == 92)

-- the byte that two hexadecimal digits stand for
abbrev pub escaped_byte : ℕ → ℕ → Option ℕ
escaped_byte high low = option_and_then (λ h. option_map (λ l. h * 16 + l) (hex_digit_value low)) (hex_digit_value high)

-- the byte that stands after a backslash, as an x and two digits
abbrev pub escape_byte : List ℕ → Option ℕ
escape_byte part = escaped_byte (slice_index part 1) (slice_index part 2)

-- what follows a backslash up to the next: an x, two digits, and bytes as they are
abbrev pub is_escape : List ℕ → Bool
is_escape part =
    nat_le 3 (length part) && (slice_index part 0 == 120) && list_all is_plain (drop 3 part)
    && is_some (escape_byte part)

-- the byte that the two digits stand for, and the bytes that follow them
abbrev pub escaped : List ℕ → List ℕ
escaped part = unwrap_or (escape_byte part) 0 ∷ drop 3 part

-- the bytes that the parts of a word show, where the word is cut at its backslashes
abbrev pub joined_parts : List (List ℕ) → Option (List ℕ)
joined_parts [] = None
joined_parts (first ∷ parts) =
    then_some (list_all is_plain first && list_all is_escape parts) (first ++ flat_map escaped parts)

-- the bytes that a word shows
unfoldable pub shown_bytes : List ℕ → Option (List ℕ)
shown_bytes word = joined_parts (slice_split (λ b. b == 92) word)

-- bytes that may be a name
abbrev pub some_name : List ℕ → Option (List ℕ)
some_name bytes = then_some (is_name bytes) bytes

-- the name that a word shows
unfoldable pub shown_name : List ℕ → Option (List ℕ)
shown_name word = option_and_then some_name (shown_bytes word)
