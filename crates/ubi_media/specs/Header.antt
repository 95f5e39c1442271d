-- When bytes are blank or sealed, and which form a header has.
use Rattle.std.specs.Prelude.{◌≡◌, ℕ, List, All, take, ◌≢◌, ◌⊎◌}
use Rattle.ubi_media.specs.Check.{crc_of}
use Rattle.ubi_media.specs.Fields.{field}
use Rattle.ubi_media.specs.declared.header.Form.{Form}
use Rattle.ubi_media.specs.declared.header.Form.TheVariants as form

-- every byte is 0xFF
abbrev pub IsBlank : List ℕ → Type 0
IsBlank bytes = All (λ byte. byte ≡ 255) bytes

-- the four bytes at a place are the CRC of all bytes before them
abbrev pub IsSealed : ℕ → List ℕ → Type 0
IsSealed at bytes = field 4 at bytes ≡ crc_of (take at bytes)

-- what bytes are before their rules are tried: blank or corrupt without the magic, corrupt with a wrong CRC
abbrev pub FormIs : ℕ → List ℕ → Form → Type 0
FormIs magic bytes form.Blank = (field 4 0 bytes ≢ magic) × IsBlank bytes
FormIs magic bytes form.Corrupt =
    ((field 4 0 bytes ≢ magic) × (IsBlank bytes → ⊥)) ⊎ ((field 4 0 bytes ≡ magic) × (IsSealed 60 bytes → ⊥))
FormIs magic bytes form.Sealed = (field 4 0 bytes ≡ magic) × IsSealed 60 bytes
