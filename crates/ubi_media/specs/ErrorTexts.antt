-- The texts that are printed for a fault, and for an image that is refused.
use Rattle.std.specs.Prelude.{ℕ, List, ◌++◌, codes, decimal}
use Rattle.ubi_media.specs.declared.ec.EcFault.{EcFault}
use Rattle.ubi_media.specs.declared.ec.EcFault.TheVariants as ec
use Rattle.ubi_media.specs.declared.geometry.GeometryError.{GeometryError}
use Rattle.ubi_media.specs.declared.geometry.GeometryError.TheVariants as limit
use Rattle.ubi_media.specs.declared.record.RecFault.{RecFault}
use Rattle.ubi_media.specs.declared.record.RecFault.TheVariants as rec
use Rattle.ubi_media.specs.declared.refusal.AttachError.{AttachError}
use Rattle.ubi_media.specs.declared.refusal.AttachError.TheVariants as attach
use Rattle.ubi_media.specs.declared.refusal.Refusal.{Refusal}
use Rattle.ubi_media.specs.declared.refusal.Refusal.TheVariants as cause
use Rattle.ubi_media.specs.declared.vid.VidFault.{VidFault}
use Rattle.ubi_media.specs.declared.vid.VidFault.TheVariants as vid

-- the name of a fault of an EC header
abbrev pub ec_fault_name : EcFault → List ℕ
ec_fault_name ec.Version = codes "Version"
ec_fault_name ec.Offsets = codes "Offsets"
ec_fault_name ec.Counter = codes "Counter"

-- the name of a fault of a VID header
abbrev pub vid_fault_name : VidFault → List ℕ
vid_fault_name vid.CopyFlag = codes "CopyFlag"
vid_fault_name vid.Negative = codes "Negative"
vid_fault_name vid.VolumeId = codes "VolumeId"
vid_fault_name vid.Compat = codes "Compat"
vid_fault_name vid.Kind = codes "Kind"
vid_fault_name vid.Pad = codes "Pad"
vid_fault_name vid.Size = codes "Size"
vid_fault_name vid.UsedEbs = codes "UsedEbs"
vid_fault_name vid.Lnum = codes "Lnum"
vid_fault_name vid.CopyFields = codes "CopyFields"

-- the name of a fault of a volume's record
abbrev pub rec_fault_name : RecFault → List ℕ
rec_fault_name rec.NotEmpty = codes "NotEmpty"
rec_fault_name rec.Negative = codes "Negative"
rec_fault_name rec.Alignment = codes "Alignment"
rec_fault_name rec.AlignmentPage = codes "AlignmentPage"
rec_fault_name rec.DataPad = codes "DataPad"
rec_fault_name rec.Kind = codes "Kind"
rec_fault_name rec.Marker = codes "Marker"
rec_fault_name rec.NameTooLong = codes "NameTooLong"
rec_fault_name rec.NameBlank = codes "NameBlank"
rec_fault_name rec.NameLength = codes "NameLength"

-- the text of a limit that a geometry breaks
abbrev pub geometry_error_text : GeometryError → List ℕ
geometry_error_text limit.Page = codes "G1 Page"
geometry_error_text limit.PebSize = codes "G2 PebSize"
geometry_error_text limit.VidOffset = codes "G3 VidOffset"
geometry_error_text limit.DataOffset = codes "G4 DataOffset"
geometry_error_text limit.LebTooSmall = codes "G5 LebTooSmall"
geometry_error_text limit.Pebs = codes "G6 Pebs"

-- the text of the cause for which an image is refused, with the eraseblock, slot or volume at fault
abbrev pub refusal_text : Refusal → List ℕ
refusal_text cause.Length = codes "S1 Length"
refusal_text cause.TooMany = codes "S2 TooMany"
refusal_text (cause.Ec p f) = codes "S3 Ec block=" ++ decimal p ++ codes " " ++ ec_fault_name f
refusal_text (cause.ImageSeq p) = codes "S4 ImageSeq block=" ++ decimal p
refusal_text (cause.Vid p f) = codes "S5 Vid block=" ++ decimal p ++ codes " " ++ vid_fault_name f
refusal_text (cause.Incompatible p vol) = codes "S6 Incompatible block=" ++ decimal p ++ codes " volume=" ++ decimal vol
refusal_text (cause.Layout p) = codes "S7 Layout block=" ++ decimal p
refusal_text (cause.SameSqnum p q) = codes "S8 SameSqnum block=" ++ decimal p ++ codes " earlier=" ++ decimal q
refusal_text cause.NoTable = codes "T1 NoTable"
refusal_text cause.BothCorrupt = codes "T2 BothCorrupt"
refusal_text (cause.Record p slot f) =
    codes "T3 Record block=" ++ decimal p ++ codes " slot=" ++ decimal slot ++ codes " " ++ rec_fault_name f
refusal_text (cause.SameName p i j) =
    codes "T4 SameName block=" ++ decimal p ++ codes " slot=" ++ decimal i ++ codes " slot=" ++ decimal j
refusal_text cause.NoSpace = codes "T5 NoSpace"
refusal_text (cause.Mismatch p) = codes "V1 Mismatch block=" ++ decimal p

-- the text that says why an image couldn't be attached
abbrev pub attach_error_text : AttachError → List ℕ
attach_error_text (attach.Refused c) = refusal_text c
attach_error_text attach.Memory = codes "out of memory"
