-- What attaching an image gives, and the state of each eraseblock.
use Rattle.std.specs.Prelude.{◌≡◌, ◌≢◌, ℕ, ◌<◌, ◌≤◌, ◌⊎◌, List, Some, None, IsSome, length, slice_get, IfSome}
use Rattle.std.specs.FinMap.{get}
use Rattle.ubi_media.specs.Geometry.{Sizes}
use Rattle.ubi_media.specs.declared.ec.EcRead.TheVariants as ec_read
use Rattle.ubi_media.specs.declared.record.VolumeRecord.{VolumeRecord}
use Rattle.ubi_media.specs.declared.vid.VidRead.TheVariants as vid_read
use Rattle.ubi_media.specs.declared.vid.VolKind.TheVariants as kind
use Rattle.ubi_scan.specs.Image.{block, ec, vid, Image, of_blocks}
use Rattle.ubi_scan.specs.Members.{Leb, layout, IsMember, Wins}
use Rattle.ubi_scan.specs.Numbers.{valid_ec}
use Rattle.ubi_scan.specs.Scan.{IsDropped, Found, IsScan}
use Rattle.ubi_table.specs.Records.{Records}
use Rattle.ubi_volume.specs.Accepts.{Accepts}
use Rattle.ubi_volume.specs.Meant.{Meant, records_of}
use Rattle.ubi_volume.specs.declared.attached.BlockState.{BlockState}
use Rattle.ubi_volume.specs.declared.attached.BlockState.TheVariants as state

-- a LEB of a user's volume without a record, or beyond what its dynamic volume reserves
abbrev pub IsOutside : Records → Leb → Type 0
IsOutside t of =
    (of.0 < 128)
    × ((get t.of of.0 ≡ None) ⊎ ((r : VolumeRecord) × (get t.of of.0 ≡ Some r) × (r.kind ≡ kind.Dynamic) × (r.reserved ≤ of.1)))

-- the state of p
abbrev pub BlockStateIs : Sizes → List (List ℕ) → Records → ℕ → BlockState → Type 0
BlockStateIs s bs t p state.Blank = ec s (block bs p) ≡ ec_read.Blank
BlockStateIs s bs t p state.Free = IsSome (valid_ec (ec s (block bs p))) × (vid s (block bs p) ≡ vid_read.Blank)
BlockStateIs s bs t p state.Garbage = IsSome (valid_ec (ec s (block bs p))) × (vid s (block bs p) ≡ vid_read.Corrupt)
BlockStateIs s bs t p state.Corrupt =
    (ec s (block bs p) ≡ ec_read.Corrupt) × ((vid s (block bs p) ≡ vid_read.Blank) ⊎ (vid s (block bs p) ≡ vid_read.Corrupt))
BlockStateIs s bs t p state.Dropped = IsDropped s bs p
BlockStateIs s bs t p state.Orphan = (of : Leb) × IsMember s bs of p × IsOutside t of
BlockStateIs s bs t p state.Table = (lnum : ℕ) × Wins s bs (layout, lnum) p
BlockStateIs s bs t p state.Used = (of : Leb) × Wins s bs of p × (of.0 ≢ layout) × (IsOutside t of → ⊥)
BlockStateIs s bs t p state.Stale = (of : Leb) × IsMember s bs of p × (Wins s bs of p → ⊥) × (IsOutside t of → ⊥)

-- each eraseblock has its state
abbrev pub AreBlockStates : Sizes → List (List ℕ) → Records → List BlockState → Type 0
AreBlockStates s bs t states = (length states ≡ length bs) × ((p : ℕ) → IfSome (slice_get states p) (BlockStateIs s bs t p))

-- the meaning, what the scan found, and the state of each eraseblock
pub record AttachValue : Type 0 where
  pub meaning : Meant
  pub scan : Found
  pub states : List BlockState

-- what attaching gives is right for the image
pub record IsAttached (image : Image) (a : AttachValue) : Type 0 where
  pub accepted : Accepts image a.meaning
  pub scan : of_blocks IsScan image a.scan
  pub states : of_blocks AreBlockStates image (records_of a.meaning) a.states
