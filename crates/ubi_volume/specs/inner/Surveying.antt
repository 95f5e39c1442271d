-- What is known of a source before its volumes are read, and the state of each eraseblock.
use Rattle.std.specs.Prelude.{List, ◌≡◌, ◌≢◌, ◌^◌, ◌<◌, ◌≤◌, Bool, true, false, length}
use Rattle.ubi_media.specs.Geometry.{IsGeometry, Sizes}
use Rattle.ubi_scan.specs.Members.{Leb, layout}
use Rattle.ubi_scan.specs.Scan.{Found}
use Rattle.ubi_scan.specs.Source.{Agreed, IsSource, Source, WhereHeld, blocks_in, blocks_of}
use Rattle.ubi_scan.specs.Stream.{IsScanOf}
use Rattle.ubi_table.specs.Records.{Records}
use Rattle.ubi_table.specs.Stream.{IsTableOf}
use Rattle.ubi_volume.specs.Accepts.{NoMismatch}
use Rattle.ubi_volume.specs.Attached.{IsOutside, AreBlockStates}
use Rattle.ubi_volume.specs.declared.attached.BlockState.{BlockState}
use Rattle.ubi_volume.specs.declared.attached.BlockState.TheVariants as state

-- what is known of a source before its volumes are looked at: a scan of it, its table, and that each winner agrees with
-- its record
pub record AreChecked (s : Sizes) (k : Source) (agrees : Agreed) (found : Found) (t : Records) : Type 0 where
  pub sizes : IsGeometry s
  pub source : IsSource k agrees
  pub scan : IsScanOf s k agrees found
  pub narrow : found.image_seq < 2 ^ 32
  pub mean : found.mean_ec ≤ 0x7FFFFFFF
  pub table : IsTableOf s agrees t
  pub alike : WhereHeld agrees (λ bytes. NoMismatch s (blocks_of s bytes) t)

-- the state of a member of a LEB, by whether it wins
abbrev pub MemberStateIs : Records → Leb → Bool → BlockState → Type 0
MemberStateIs t of wins state.Orphan = IsOutside t of
MemberStateIs t of wins state.Table = (wins ≡ true) × (of.0 ≡ layout)
MemberStateIs t of wins state.Used = (wins ≡ true) × (of.0 ≢ layout) × (IsOutside t of → ⊥)
MemberStateIs t of wins state.Stale = (wins ≡ false) × (IsOutside t of → ⊥)
MemberStateIs t of wins _ = ⊥

-- each eraseblock of a source has a state, which is its own in whatever the source may hold
pub record AreStatesOf (s : Sizes) (k : Source) (agrees : Agreed) (t : Records) (states : List BlockState) : Type 0 where
  pub count : length states ≡ blocks_in s k
  pub held : WhereHeld agrees (λ bytes. AreBlockStates s (blocks_of s bytes) t states)
