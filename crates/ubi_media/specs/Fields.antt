-- What stands at a place of a list of bytes; blank, sealed and padded bytes; the form of a header, by its magic and CRC.
use Rattle.std.specs.Prelude.{ℕ, ◌<◌, Bool, ◌==◌, List, ◌+◌, ◌++◌, ◌-◌, take, drop, length, replicate, slice_range, not, if◌then◌else◌}
use Rattle.std.specs.Cmp.Lexicographic.{pointwise}
use Rattle.std.specs.List.{AllByRecursion, list_all}
use Rattle.byteorder.specs.Endian.{big_bytes, big_number}
use Rattle.ubi_media.specs.Check.{crc_of}
use Rattle.ubi_media.specs.declared.header.Form.{Form}
use Rattle.ubi_media.specs.declared.header.Form.TheVariants as form

-- each number is a byte
abbrev pub AreBytes : List ℕ → Type 0
AreBytes numbers = AllByRecursion (λ number. number < 256) numbers

-- the number in the n bytes from a place on, the highest byte first
abbrev pub field : ℕ → ℕ → List ℕ → ℕ
field n at bytes = big_number n (slice_range bytes at (at + n))

-- the list in which xs replaces what stands from a place on
unfoldable pub overwrite : ℕ → List ℕ → List ℕ → List ℕ
overwrite at xs bytes = take at bytes ++ xs ++ drop (at + length xs) bytes

-- whether every byte is 0xFF
abbrev pub is_blank : List ℕ → Bool
is_blank bytes = list_all (λ byte. byte == 255) bytes

-- n bytes 0xFF
abbrev pub blank : ℕ → List ℕ
blank n = replicate n 255

-- bytes, and then 0xFF to a length
unfoldable pub filled : ℕ → List ℕ → List ℕ
filled n bytes = bytes ++ blank (n - length bytes)

-- bytes, and then their CRC
abbrev pub sealed : List ℕ → List ℕ
sealed front = front ++ big_bytes 4 (crc_of front)

-- whether the four bytes at a place are the CRC of all bytes before them
abbrev pub is_sealed : ℕ → List ℕ → Bool
is_sealed at bytes = field 4 at bytes == crc_of (take at bytes)

-- whether two lists of bytes are the same
abbrev pub same_bytes : List ℕ → List ℕ → Bool
same_bytes = pointwise ◌==◌

-- a name with zeros after it, 128 bytes
abbrev pub padded : List ℕ → List ℕ
padded name = name ++ replicate (128 - length name) 0

-- the one form of the bytes
unfoldable pub form_of : ℕ → List ℕ → Form
form_of magic bytes =
    if not (field 4 0 bytes == magic) then (if is_blank bytes then form.Blank else form.Corrupt)
    else (if is_sealed 60 bytes then form.Sealed else form.Corrupt)
