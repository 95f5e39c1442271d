-- The record of a section's volume.
use Rattle.std.specs.Prelude.{ℕ, ◌^◌, ◌==◌, ◌&&◌, Bool, false, max, nat_lt, not, if◌then◌else◌, Option, Some, None, Result, Ok, Err, unwrap_or}
use Rattle.std.specs.Int.{div_ceil}
use Rattle.std.specs.Option.{option_map_or}
use Rattle.ubi_media.specs.Geometry.{Sizes, slots}
use Rattle.ubi_media.specs.Kind.{is_static}
use Rattle.ubi_media.specs.Record.{rec_fault, usable}
use Rattle.ubi_media.specs.declared.record.VolumeRecord.{VolumeRecord}
use Rattle.ubi_config.specs.declared.errors.ConfigCause.{ConfigCause}
use Rattle.ubi_config.specs.declared.errors.ConfigCause.TheVariants as cause
use Rattle.ubi_config.specs.declared.section.Section.{Section}

-- the bytes of a volume: its size, or else those of its image file
abbrev pub section_bytes : Section → Option ℕ → ℕ
section_bytes section image_len = unwrap_or section.size (unwrap_or image_len 0)

-- the record of a volume that reserves this many eraseblocks
abbrev pub reserving : Section → ℕ → VolumeRecord
reserving section n = record {
  reserved = n;
  alignment = section.alignment;
  kind = section.kind;
  marker = false;
  name = section.name;
  flags = section.flags;
}

-- how many parts of a size this many bytes have: the last may be short
abbrev pub parts_of : ℕ → ℕ → ℕ
parts_of bytes part = div_ceil bytes part

-- how many eraseblocks this many bytes take, each without what the alignment leaves free: at least one, even for no byte
abbrev pub blocks_for : Sizes → Section → ℕ → ℕ
blocks_for s section bytes = max 1 (parts_of bytes (usable s (reserving section 1)))

-- the record that reserves this many eraseblocks, if a record can, and there is a slot for it
abbrev pub fitting : Sizes → Section → ℕ → Result VolumeRecord ConfigCause
fitting s section n =
    if nat_lt n (2 ^ 31) then (if nat_lt section.id (slots s) then Ok (reserving section n) else Err cause.IdRange)
    else Err cause.TooLarge

-- the record of a volume of some bytes: its alignment is judged first
abbrev pub sized : Sizes → Section → ℕ → Result VolumeRecord ConfigCause
sized s section bytes =
    option_map_or (λ fault. Err (cause.Record fault)) (rec_fault s (reserving section 1))
    (fitting s section (blocks_for s section bytes))

-- whether a volume that should have bytes has none: one without an image file, or a dynamic one with an empty file
abbrev pub is_empty : Section → Option ℕ → Bool
is_empty section None = unwrap_or section.size 0 == 0
is_empty section (Some image_len) = (image_len == 0) && not (is_static section.kind)

-- the record of a section's volume, if its image file has this many bytes
unfoldable pub record_in : Sizes → Section → Option ℕ → Result VolumeRecord ConfigCause
record_in s section image_len =
    if is_empty section image_len then Err cause.Empty
    else (if nat_lt (section_bytes section image_len) (unwrap_or image_len 0) then Err cause.LongImage
    else sized s section (section_bytes section image_len))
