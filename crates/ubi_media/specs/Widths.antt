-- When the numbers of a header and of a record fit their widths, and which faults numbers can have.
use Rattle.std.specs.Prelude.{◌^◌, ◌<◌, ◌≡◌, true, ⊤}
use Rattle.ubi_media.specs.Name.{is_name}
use Rattle.ubi_media.specs.declared.ec.EcHeader.{EcHeader}
use Rattle.ubi_media.specs.declared.record.RecFault.{RecFault}
use Rattle.ubi_media.specs.declared.record.RecFault.TheVariants as fault
use Rattle.ubi_media.specs.declared.record.VolumeRecord.{VolumeRecord}
use Rattle.ubi_media.specs.declared.vid.VidHeader.{VidHeader}

-- the numbers of an erase-counter header fit their widths
pub record EcFits (h : EcHeader) : Type 0 where
  pub counter : h.counter < 2 ^ 32
  pub image_seq : h.image_seq < 2 ^ 32

-- the numbers of a volume-identifier header fit their widths
pub record VidFits (h : VidHeader) : Type 0 where
  pub vol_id : h.vol_id < 2 ^ 32
  pub lnum : h.lnum < 2 ^ 32
  pub data_size : h.data_size < 2 ^ 32
  pub used_ebs : h.used_ebs < 2 ^ 32
  pub data_pad : h.data_pad < 2 ^ 32
  pub data_crc : h.data_crc < 2 ^ 32
  pub sqnum : h.sqnum < 2 ^ 64

-- the fault is that of the reserved eraseblocks or one of the alignment
abbrev pub IsNumberFault : RecFault → Type 0
IsNumberFault fault.NotEmpty = ⊤
IsNumberFault fault.Negative = ⊤
IsNumberFault fault.Alignment = ⊤
IsNumberFault fault.AlignmentPage = ⊤
IsNumberFault fault.DataPad = ⊥
IsNumberFault fault.Kind = ⊥
IsNumberFault fault.Marker = ⊥
IsNumberFault fault.NameTooLong = ⊥
IsNumberFault fault.NameBlank = ⊥
IsNumberFault fault.NameLength = ⊥

-- the numbers of a record fit their widths, and its name is a name
pub record RecFits (r : VolumeRecord) : Type 0 where
  pub reserved : r.reserved < 2 ^ 32
  pub alignment : r.alignment < 2 ^ 32
  pub name : is_name r.name ≡ true
