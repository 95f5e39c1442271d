-- A record of the volume table: 172 bytes.
use Rattle.std.specs.Prelude.{◌≡◌, ◌≢◌, ℕ, ◌-◌, ◌%◌, ◌==◌, ◌&&◌, ◌||◌, Bool, false, not, nat_lt, if◌then◌else◌, List, [], ◌∷◌, ◌++◌, Option, None, Some, find, length, position, replicate, slice_index, slice_range, take}
use Rattle.std.specs.Option.{option_map_or}
use Rattle.byteorder.specs.Endian.{big_bytes}
use Rattle.ubi_media.specs.Fields.{field, sealed, is_sealed, same_bytes, padded}
use Rattle.ubi_media.specs.Geometry.{Sizes, leb_size}
use Rattle.ubi_media.specs.Header.{IsSealed}
use Rattle.ubi_media.specs.Vid.{is_negative, kind_number, kind_of}
use Rattle.ubi_media.specs.declared.record.RecFault.{RecFault}
use Rattle.ubi_media.specs.declared.record.RecFault.TheVariants as fault
use Rattle.ubi_media.specs.declared.record.RecFields.{RecFields}
use Rattle.ubi_media.specs.declared.record.RecRead.{RecRead}
use Rattle.ubi_media.specs.declared.record.RecRead.TheVariants as read
use Rattle.ubi_media.specs.declared.record.VolumeRecord.{VolumeRecord}

-- the size of a record in bytes
abbrev pub record_size : ℕ
record_size = 172

-- the empty record: zeros and their CRC
unfoldable pub empty_record : List ℕ
empty_record = sealed (replicate 168 0)

-- the fields of a record's bytes
unfoldable pub rec_fields : List ℕ → RecFields
rec_fields bytes = record {
  reserved = field 4 0 bytes;
  alignment = field 4 4 bytes;
  data_pad = field 4 8 bytes;
  kind = slice_index bytes 12;
  marker = slice_index bytes 13;
  name_len = field 2 14 bytes;
  name = slice_range bytes 16 144;
  flags = slice_index bytes 144;
}

-- whether the first zero byte of a name's bytes stands at a place
abbrev pub ends_at : List ℕ → ℕ → Bool
ends_at name at = option_map_or (λ place. place == at) (position (λ byte. byte == 0) name) false

-- whether the fields break the rule that a fault is named after
unfoldable pub breaks : Sizes → RecFields → RecFault → Bool
breaks s f fault.NotEmpty = f.reserved == 0
breaks s f fault.Negative = is_negative f.reserved || is_negative f.alignment || is_negative f.data_pad
breaks s f fault.Alignment = (f.alignment == 0) || nat_lt (leb_size s) f.alignment
breaks s f fault.AlignmentPage = not (f.alignment == 1) && not (f.alignment % s.page == 0)
breaks s f fault.DataPad = not (f.alignment == 0) && not (f.data_pad == leb_size s % f.alignment)
breaks s f fault.Kind = not (f.kind == 1) && not (f.kind == 2)
breaks s f fault.Marker = nat_lt 1 f.marker
breaks s f fault.NameTooLong = nat_lt 127 f.name_len
breaks s f fault.NameBlank = slice_index f.name 0 == 0
breaks s f fault.NameLength = not (ends_at f.name f.name_len)

-- the faults, in the order in which their rules are tried
abbrev pub faults : List RecFault
faults =
    fault.NotEmpty ∷ fault.Negative ∷ fault.Alignment ∷ fault.AlignmentPage ∷ fault.DataPad ∷ fault.Kind ∷ fault.Marker
    ∷ fault.NameTooLong ∷ fault.NameBlank ∷ fault.NameLength ∷ []

-- the fault of the first rule that the fields break
unfoldable pub first_fault : Sizes → RecFields → Option RecFault
first_fault s f = find (breaks s f) faults

-- what the fields of a sealed record say of a volume
unfoldable pub record_of : RecFields → VolumeRecord
record_of f = record {
  reserved = f.reserved;
  alignment = f.alignment;
  kind = kind_of f.kind;
  marker = not (f.marker == 0);
  name = take f.name_len f.name;
  flags = f.flags;
}

-- what the bytes are
abbrev pub RecIs : Sizes → List ℕ → RecRead → Type 0
RecIs s bytes read.Empty = bytes ≡ empty_record
RecIs s bytes read.BadCrc = IsSealed 168 bytes → ⊥
RecIs s bytes (read.Fault f) =
    IsSealed 168 bytes × (bytes ≢ empty_record) × (first_fault s (rec_fields bytes) ≡ Some f)
RecIs s bytes (read.Valid r) =
    IsSealed 168 bytes × (bytes ≢ empty_record) × (first_fault s (rec_fields bytes) ≡ None) × (r ≡ record_of (rec_fields bytes))

-- what the fields of a sealed record are, if it isn't the empty one
unfoldable pub judged : Sizes → RecFields → RecRead
judged s f = option_map_or read.Fault (first_fault s f) (read.Valid (record_of f))

-- the one reading of the bytes
unfoldable pub rec_reading : Sizes → List ℕ → RecRead
rec_reading s bytes =
    if not (is_sealed 168 bytes) then read.BadCrc
    else (if same_bytes bytes empty_record then read.Empty else judged s (rec_fields bytes))

-- how many bytes a volume leaves free at the end of each logical eraseblock, for its alignment
abbrev pub data_pad : Sizes → VolumeRecord → ℕ
data_pad s r = leb_size s % r.alignment

-- how many bytes of a logical eraseblock a volume uses
abbrev pub usable : Sizes → VolumeRecord → ℕ
usable s r = leb_size s - data_pad s r

-- the fields of a record; with an alignment of 0, which breaks a rule, nothing is divided
unfoldable pub fields_from : Sizes → VolumeRecord → RecFields
fields_from s r = record {
  reserved = r.reserved;
  alignment = r.alignment;
  data_pad = if r.alignment == 0 then 0 else data_pad s r;
  kind = kind_number r.kind;
  marker = if r.marker then 1 else 0;
  name_len = length r.name;
  name = padded r.name;
  flags = r.flags;
}

-- the fault of the first rule that a record breaks
abbrev pub rec_fault : Sizes → VolumeRecord → Option RecFault
rec_fault s r = first_fault s (fields_from s r)

-- the bytes before the CRC
abbrev pub rec_front : Sizes → VolumeRecord → List ℕ
rec_front s r =
    big_bytes 4 r.reserved ++ big_bytes 4 r.alignment ++ big_bytes 4 (data_pad s r)
    ++ (kind_number r.kind ∷ (if r.marker then 1 else 0) ∷ []) ++ big_bytes 2 (length r.name) ++ padded r.name
    ++ (r.flags ∷ replicate 23 0)

-- the bytes of a slot: those of its record, or of the empty one
unfoldable pub rec_bytes : Sizes → Option VolumeRecord → List ℕ
rec_bytes s None = empty_record
rec_bytes s (Some r) = sealed (rec_front s r)

-- what the bytes of a slot read as
abbrev pub slot_reading : Option VolumeRecord → RecRead
slot_reading None = read.Empty
slot_reading (Some r) = read.Valid r
