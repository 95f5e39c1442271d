-- The erase-counter header: the first 64 bytes of an eraseblock.
use Rattle.std.specs.Prelude.{◌≡◌, ℕ, ◌==◌, ◌||◌, Bool, not, nat_lt, List, [], ◌∷◌, ◌++◌, Option, None, Some, find, replicate, slice_index}
use Rattle.std.specs.Option.{option_map_or}
use Rattle.byteorder.specs.Endian.{big_bytes}
use Rattle.ubi_media.specs.Fields.{field, sealed, form_of}
use Rattle.ubi_media.specs.Geometry.{Sizes}
use Rattle.ubi_media.specs.Header.{FormIs}
use Rattle.ubi_media.specs.declared.ec.EcFault.{EcFault}
use Rattle.ubi_media.specs.declared.ec.EcFault.TheVariants as fault
use Rattle.ubi_media.specs.declared.ec.EcFields.{EcFields}
use Rattle.ubi_media.specs.declared.ec.EcHeader.{EcHeader}
use Rattle.ubi_media.specs.declared.ec.EcOffsets.{EcOffsets}
use Rattle.ubi_media.specs.declared.ec.EcRead.{EcRead}
use Rattle.ubi_media.specs.declared.ec.EcRead.TheVariants as read
use Rattle.ubi_media.specs.declared.ec.EcStart.{EcStart}
use Rattle.ubi_media.specs.declared.ec.EcStart.TheVariants as start
use Rattle.ubi_media.specs.declared.header.Form.{Form}
use Rattle.ubi_media.specs.declared.header.Form.TheVariants as form

-- the text UBI#
abbrev pub ec_magic : ℕ
ec_magic = 0x55424923

-- the fields after the magic
unfoldable pub ec_fields : List ℕ → EcFields
ec_fields bytes = record {
  version = slice_index bytes 4;
  counter = field 8 8 bytes;
  vid_offset = field 4 16 bytes;
  data_offset = field 4 20 bytes;
  image_seq = field 4 24 bytes;
}

-- whether the fields break the rule that a fault is named after
unfoldable pub breaks : Sizes → EcFields → EcFault → Bool
breaks s f fault.Version = not (f.version == 1)
breaks s f fault.Offsets = not (f.vid_offset == s.vid_offset) || not (f.data_offset == s.data_offset)
breaks s f fault.Counter = nat_lt 0x7FFFFFFF f.counter

-- the faults, in the order in which their rules are tried
abbrev pub faults : List EcFault
faults = fault.Version ∷ fault.Offsets ∷ fault.Counter ∷ []

-- the fault of the first rule that the fields break
unfoldable pub first_fault : Sizes → EcFields → Option EcFault
first_fault s f = find (breaks s f) faults

-- the header that the fields of a sealed header give
abbrev pub header_of : EcFields → EcHeader
header_of f = record { counter = f.counter; image_seq = f.image_seq }

-- what the bytes are
abbrev pub EcIs : Sizes → List ℕ → EcRead → Type 0
EcIs s bytes read.Blank = FormIs ec_magic bytes form.Blank
EcIs s bytes read.Corrupt = FormIs ec_magic bytes form.Corrupt
EcIs s bytes (read.Fault f) = FormIs ec_magic bytes form.Sealed × (first_fault s (ec_fields bytes) ≡ Some f)
EcIs s bytes (read.Valid h) =
    FormIs ec_magic bytes form.Sealed × (first_fault s (ec_fields bytes) ≡ None) × (h ≡ header_of (ec_fields bytes))

-- what the fields of a sealed header are
unfoldable pub judged : Sizes → EcFields → EcRead
judged s f = option_map_or read.Fault (first_fault s f) (read.Valid (header_of f))

-- what a header of this form and with these fields is
abbrev pub reading_by : Sizes → EcFields → Form → EcRead
reading_by s f form.Blank = read.Blank
reading_by s f form.Corrupt = read.Corrupt
reading_by s f form.Sealed = judged s f

-- the one reading of the bytes
unfoldable pub ec_reading : Sizes → List ℕ → EcRead
ec_reading s bytes = reading_by s (ec_fields bytes) (form_of ec_magic bytes)

-- the offsets that fields name
abbrev pub offsets_of : EcFields → EcOffsets
offsets_of f = record { vid_offset = f.vid_offset; data_offset = f.data_offset }

-- the offsets of a geometry
abbrev pub offsets_in : Sizes → EcOffsets
offsets_in s = record { vid_offset = s.vid_offset; data_offset = s.data_offset }

-- sizes of which only these offsets are known
abbrev pub sizes_naming : EcOffsets → Sizes
sizes_naming o = record { peb_size = 0; page = 0; vid_offset = o.vid_offset; data_offset = o.data_offset; pebs = 0 }

-- what bytes that name some offsets are, by what they are under these
abbrev pub start_by : EcOffsets → EcRead → EcStart
start_by o read.Blank = start.Blank
start_by o (read.Valid _) = start.Header o
start_by o _ = start.Other

-- what bytes are under the offsets that they name themselves
unfoldable pub ec_start : List ℕ → EcStart
ec_start bytes = let o = offsets_of (ec_fields bytes) in start_by o (ec_reading (sizes_naming o) bytes)

-- the bytes before the CRC
abbrev pub ec_front : Sizes → EcHeader → List ℕ
ec_front s h =
    big_bytes 4 ec_magic ++ (1 ∷ 0 ∷ 0 ∷ 0 ∷ []) ++ big_bytes 8 h.counter ++ big_bytes 4 s.vid_offset ++ big_bytes 4 s.data_offset
    ++ big_bytes 4 h.image_seq ++ replicate 32 0

-- the bytes of a header
abbrev pub ec_bytes : Sizes → EcHeader → List ℕ
ec_bytes s h = sealed (ec_front s h)
