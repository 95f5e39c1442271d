-- The volume-identifier header: 64 bytes at the VID offset of an eraseblock.
use Rattle.std.specs.Prelude.{◌≡◌, ℕ, ◌+◌, ◌-◌, ◌/◌, ◌==◌, ◌&&◌, ◌||◌, Bool, false, not, nat_le, nat_lt, if◌then◌else◌, List, [], ◌∷◌, ◌++◌, Option, None, Some, replicate, find, slice_index}
use Rattle.std.specs.List.{list_any}
use Rattle.std.specs.Option.{option_map_or}
use Rattle.byteorder.specs.Endian.{big_bytes}
use Rattle.ubi_media.specs.Fields.{field, sealed, form_of}
use Rattle.ubi_media.specs.Geometry.{Sizes, leb_size}
use Rattle.ubi_media.specs.Header.{FormIs}
use Rattle.ubi_media.specs.declared.header.Form.{Form}
use Rattle.ubi_media.specs.declared.header.Form.TheVariants as form
use Rattle.ubi_media.specs.declared.vid.VidFault.{VidFault}
use Rattle.ubi_media.specs.declared.vid.VidFault.TheVariants as fault
use Rattle.ubi_media.specs.declared.vid.VidFields.{VidFields}
use Rattle.ubi_media.specs.declared.vid.VidHeader.{VidHeader}
use Rattle.ubi_media.specs.declared.vid.VidRead.{VidRead}
use Rattle.ubi_media.specs.declared.vid.VidRead.TheVariants as read
use Rattle.ubi_media.specs.declared.vid.VolKind.{VolKind}
use Rattle.ubi_media.specs.declared.vid.VolKind.TheVariants as kind

-- the text UBI!
abbrev pub vid_magic : ℕ
vid_magic = 0x55424921

-- the number of a kind
abbrev pub kind_number : VolKind → ℕ
kind_number kind.Dynamic = 1
kind_number kind.Static = 2

-- the kind of a number
abbrev pub kind_of : ℕ → VolKind
kind_of n = if n == 2 then kind.Static else kind.Dynamic

-- the fields after the magic
unfoldable pub vid_fields : List ℕ → VidFields
vid_fields bytes = record {
  kind = slice_index bytes 5;
  copy_flag = slice_index bytes 6;
  compat = slice_index bytes 7;
  vol_id = field 4 8 bytes;
  lnum = field 4 12 bytes;
  data_size = field 4 20 bytes;
  used_ebs = field 4 24 bytes;
  data_pad = field 4 28 bytes;
  data_crc = field 4 32 bytes;
  sqnum = field 8 40 bytes;
}

-- whether the fields say that the volume is static
abbrev pub says_static : VidFields → Bool
says_static f = f.kind == 2

-- how many bytes of a logical eraseblock its volume may use
abbrev pub vid_usable : Sizes → VidFields → ℕ
vid_usable s f = leb_size s - f.data_pad

-- whether a 32-bit number is negative when it is read as signed
abbrev pub is_negative : ℕ → Bool
is_negative n = nat_le 0x80000000 n

-- whether the fields break the rule that a fault is named after
unfoldable pub breaks : Sizes → VidFields → VidFault → Bool
breaks s f fault.CopyFlag = nat_lt 1 f.copy_flag
breaks s f fault.Negative =
    is_negative f.vol_id || is_negative f.lnum || is_negative f.data_size || is_negative f.used_ebs || is_negative f.data_pad
breaks s f fault.VolumeId = nat_le 128 f.vol_id && nat_lt f.vol_id 0x7FFFEFFF
breaks s f fault.Compat =
    if nat_lt f.vol_id 128 then not (f.compat == 0) else not (list_any (λ c. c == f.compat) (1 ∷ 2 ∷ 4 ∷ 5 ∷ []))
breaks s f fault.Kind = not (f.kind == 1) && not (f.kind == 2)
breaks s f fault.Pad = nat_le (leb_size s / 2) f.data_pad
breaks s f fault.Size =
    nat_lt (leb_size s) f.data_size
    || (says_static f
    && ((f.data_size == 0) || nat_lt (vid_usable s f) f.data_size || (nat_lt (f.lnum + 1) f.used_ebs && not (f.data_size == vid_usable s f))))
breaks s f fault.UsedEbs = if says_static f then f.used_ebs == 0 else not (f.used_ebs == 0)
breaks s f fault.Lnum = says_static f && nat_le f.used_ebs f.lnum
breaks s f fault.CopyFields =
    not (says_static f) && (if f.copy_flag == 0 then not (f.data_size == 0) || not (f.data_crc == 0) else f.data_size == 0)

-- the faults, in the order in which their rules are tried
abbrev pub faults : List VidFault
faults =
    fault.CopyFlag ∷ fault.Negative ∷ fault.VolumeId ∷ fault.Compat ∷ fault.Kind ∷ fault.Pad ∷ fault.Size ∷ fault.UsedEbs
    ∷ fault.Lnum ∷ fault.CopyFields ∷ []

-- the fault of the first rule that the fields break
unfoldable pub first_fault : Sizes → VidFields → Option VidFault
first_fault s f = find (breaks s f) faults

-- the header that the fields of a sealed header give
unfoldable pub header_of : VidFields → VidHeader
header_of f = record {
  kind = kind_of f.kind;
  copy_flag = not (f.copy_flag == 0);
  compat = f.compat;
  vol_id = f.vol_id;
  lnum = f.lnum;
  data_size = f.data_size;
  used_ebs = f.used_ebs;
  data_pad = f.data_pad;
  data_crc = f.data_crc;
  sqnum = f.sqnum;
}

-- what the bytes are
abbrev pub VidIs : Sizes → List ℕ → VidRead → Type 0
VidIs s bytes read.Blank = FormIs vid_magic bytes form.Blank
VidIs s bytes read.Corrupt = FormIs vid_magic bytes form.Corrupt
VidIs s bytes (read.Fault f) = FormIs vid_magic bytes form.Sealed × (first_fault s (vid_fields bytes) ≡ Some f)
VidIs s bytes (read.Valid h) =
    FormIs vid_magic bytes form.Sealed × (first_fault s (vid_fields bytes) ≡ None) × (h ≡ header_of (vid_fields bytes))

-- what the fields of a sealed header are
unfoldable pub judged : Sizes → VidFields → VidRead
judged s f = option_map_or read.Fault (first_fault s f) (read.Valid (header_of f))

-- what a header of this form and with these fields is
abbrev pub reading_by : Sizes → VidFields → Form → VidRead
reading_by s f form.Blank = read.Blank
reading_by s f form.Corrupt = read.Corrupt
reading_by s f form.Sealed = judged s f

-- the one reading of the bytes
unfoldable pub vid_reading : Sizes → List ℕ → VidRead
vid_reading s bytes = reading_by s (vid_fields bytes) (form_of vid_magic bytes)

-- the fields of a header
unfoldable pub fields_from : VidHeader → VidFields
fields_from h = record {
  kind = kind_number h.kind;
  copy_flag = if h.copy_flag then 1 else 0;
  compat = h.compat;
  vol_id = h.vol_id;
  lnum = h.lnum;
  data_size = h.data_size;
  used_ebs = h.used_ebs;
  data_pad = h.data_pad;
  data_crc = h.data_crc;
  sqnum = h.sqnum;
}

-- the fault of the first rule that a header breaks
abbrev pub vid_fault : Sizes → VidHeader → Option VidFault
vid_fault s h = first_fault s (fields_from h)

-- the bytes before the CRC
abbrev pub vid_front : VidFields → List ℕ
vid_front f =
    big_bytes 4 vid_magic ++ (1 ∷ f.kind ∷ f.copy_flag ∷ f.compat ∷ []) ++ big_bytes 4 f.vol_id ++ big_bytes 4 f.lnum ++ replicate 4 0
    ++ big_bytes 4 f.data_size ++ big_bytes 4 f.used_ebs ++ big_bytes 4 f.data_pad ++ big_bytes 4 f.data_crc ++ replicate 4 0
    ++ big_bytes 8 f.sqnum ++ replicate 12 0

-- the bytes of a header
abbrev pub vid_bytes : VidHeader → List ℕ
vid_bytes h = sealed (vid_front (fields_from h))

-- a header of a logical eraseblock whose data have no CRC: it is neither copied nor static
abbrev pub plain : VolKind → ℕ → ℕ → ℕ → ℕ → VidHeader
plain of compat pad vol lnum = record {
  kind = of;
  copy_flag = false;
  compat = compat;
  vol_id = vol;
  lnum = lnum;
  data_size = 0;
  used_ebs = 0;
  data_pad = pad;
  data_crc = 0;
  sqnum = 0;
}
