-- Which images are accepted, with which meaning, and which are refused, with which cause.
use Rattle.std.specs.Prelude.{◌≡◌, ◌≢◌, ℕ, ◌<◌, ◌⊎◌, false, List, Some}
use Rattle.std.specs.FinMap.{get}
use Rattle.ubi_media.specs.Geometry.{Sizes}
use Rattle.ubi_media.specs.Record.{data_pad}
use Rattle.ubi_media.specs.declared.record.VolumeRecord.{VolumeRecord}
use Rattle.ubi_media.specs.declared.refusal.AttachError.{AttachError}
use Rattle.ubi_media.specs.declared.refusal.AttachError.TheVariants as attach
use Rattle.ubi_media.specs.declared.refusal.Refusal.{Refusal}
use Rattle.ubi_media.specs.declared.refusal.Refusal.TheVariants as refusal
use Rattle.ubi_media.specs.declared.vid.VidHeader.{VidHeader}
use Rattle.ubi_media.specs.declared.vid.VolKind.TheVariants as kind
use Rattle.ubi_scan.specs.Faults.{NoFault, IsScanFault}
use Rattle.ubi_scan.specs.Image.{block, Image, IsWholeImage, IsSizeFault, of_blocks}
use Rattle.ubi_scan.specs.Members.{member, Wins}
use Rattle.ubi_table.specs.Records.{Records}
use Rattle.ubi_table.specs.Table.{IsTable, IsTableFault}
use Rattle.ubi_volume.specs.Means.{Means}
use Rattle.ubi_volume.specs.Meant.{Meant}

-- a LEB is within a volume; each LEB of a static volume is
abbrev pub IsWithin : VolumeRecord → ℕ → Type 0
IsWithin r lnum = r.kind ≡ kind.Dynamic → lnum < r.reserved

-- p is a counted winner, of a volume with this record
pub record IsWinnerOf (s : Sizes) (bs : List (List ℕ)) (t : Records) (r : VolumeRecord) (p : ℕ) : Type 0 where
  pub vol : ℕ
  pub lnum : ℕ
  pub wins : Wins s bs (vol, lnum) p
  pub recorded : get t.of vol ≡ Some r
  pub within : IsWithin r lnum

-- a header's type or padding isn't that of a record
abbrev pub IsUnlike : Sizes → VolumeRecord → VidHeader → Type 0
IsUnlike s r h = (h.kind ≢ r.kind) ⊎ (h.data_pad ≢ data_pad s r)

-- p is a counted winner of an unmarked volume, and is unlike its record
abbrev pub IsMismatched : Sizes → List (List ℕ) → Records → ℕ → Type 0
IsMismatched s bs t p =
    (r : VolumeRecord) × (h : VidHeader) × IsWinnerOf s bs t r p × (r.marker ≡ false)
    × (member s (block bs p) ≡ Some h) × IsUnlike s r h

-- no eraseblock is mismatched
abbrev pub NoMismatch : Sizes → List (List ℕ) → Records → Type 0
NoMismatch s bs t = (p : ℕ) → IsMismatched s bs t p → ⊥

-- the refusal names the least mismatched eraseblock
abbrev pub IsVolumeFault : Sizes → List (List ℕ) → Records → Refusal → Type 0
IsVolumeFault s bs t (refusal.Mismatch p) = IsMismatched s bs t p × ((q : ℕ) → q < p → IsMismatched s bs t q → ⊥)
IsVolumeFault s bs t _ = ⊥

-- eraseblocks are accepted with the meaning m: there is no fault, and m is the meaning of their table
pub record AcceptsBlocks (s : Sizes) (bs : List (List ℕ)) (m : Meant) : Type 0 where
  pub clean : NoFault s bs
  pub records : Records
  pub table : IsTable s bs records
  pub alike : NoMismatch s bs records
  pub means : Means s bs records m

-- eraseblocks are refused for c: a fault of the scan, or else of the table, or else of a volume
abbrev pub RefusesBlocks : Sizes → List (List ℕ) → Refusal → Type 0
RefusesBlocks s bs c =
    IsScanFault s bs c
    ⊎ (NoFault s bs × IsTableFault s bs c)
    ⊎ (NoFault s bs × (t : Records) × IsTable s bs t × IsVolumeFault s bs t c)

-- an image is accepted with the meaning m
pub record Accepts (image : Image) (m : Meant) : Type 0 where
  pub whole : IsWholeImage image
  pub accepted : of_blocks AcceptsBlocks image m

-- an image is refused for c: for its length, or else for its eraseblocks
abbrev pub Refuses : Image → Refusal → Type 0
Refuses image c = IsSizeFault image c ⊎ (IsWholeImage image × of_blocks RefusesBlocks image c)

-- an error: memory ran out, or a cause for which the image is refused
abbrev pub IsAttachError : Image → AttachError → Type 0
IsAttachError image attach.Memory = Unit {0}
IsAttachError image (attach.Refused c) = Refuses image c
