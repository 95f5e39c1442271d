-- When a volume may be renamed, and why a rename isn't planned: the causes in their order.
use Rattle.std.specs.Prelude.{◌≡◌, ◌≢◌, ℕ, ◌+◌, ◌<◌, ◌≤◌, true, false, List, length, Some, None}
use Rattle.std.specs.FinMap.{get}
use Rattle.ubi_media.specs.Geometry.{Sizes}
use Rattle.ubi_media.specs.Name.{is_name}
use Rattle.ubi_table.specs.Records.{Records}
use Rattle.ubi_table.specs.Table.{CopyIs}
use Rattle.ubi_table.specs.declared.copy.CopyRead.TheVariants as copy
use Rattle.ubi_volume.specs.Attached.{AttachValue}
use Rattle.ubi_volume.specs.Meant.{records_of}
use Rattle.ubi_volume.specs.declared.content.Volume.{Volume}
use Rattle.ubi_change.specs.RenamePlan.{renamed_pages}
use Rattle.ubi_change.specs.Takeable.{takeable}
use Rattle.ubi_change.specs.Weak.{weak_pages}
use Rattle.ubi_change.specs.declared.errors.RenameRefusal.{RenameRefusal}
use Rattle.ubi_change.specs.declared.errors.RenameRefusal.TheVariants as refusal

-- both copies of the table are good, with these records
abbrev pub BothGood : Sizes → List (List ℕ) → Records → Type 0
BothGood s bs t = CopyIs s bs 0 (copy.Good t) × CopyIs s bs 1 (copy.Good t)

-- the volume of another slot has the name
abbrev pub HasName : AttachValue → ℕ → List ℕ → ℕ → Type 0
HasName a id name slot = (slot ≢ id) × (v : Volume) × (get a.meaning.volumes slot ≡ Some v) × (v.entry.name ≡ name)

-- nothing applies against a rename
pub record MayBeNamed (s : Sizes) (bs : List (List ℕ)) (a : AttachValue) (id : ℕ) (name : List ℕ) : Type 0 where
  pub volume : Volume
  pub there : get a.meaning.volumes id ≡ Some volume
  pub named : is_name name ≡ true
  pub free : (slot : ℕ) → HasName a id name slot → ⊥
  pub both : BothGood s bs (records_of a.meaning)
  pub strong : weak_pages s (renamed_pages s a.meaning id name) ≡ None
  pub few : a.scan.top_sqnum + 2 ≤ 0xFFFFFFFFFFFFFFFF
  pub enough : 2 ≤ length (takeable s bs a.states)

-- a cause applies against a rename
abbrev pub RenameStands : Sizes → List (List ℕ) → AttachValue → ℕ → List ℕ → RenameRefusal → Type 0
RenameStands s bs a id name refusal.NoVolume = get a.meaning.volumes id ≡ None
RenameStands s bs a id name refusal.BadName = is_name name ≡ false
RenameStands s bs a id name (refusal.SameName slot) = HasName a id name slot
RenameStands s bs a id name refusal.NeedsRepair = (t : Records) → BothGood s bs t → ⊥
RenameStands s bs a id name (refusal.WeakCheck k) = weak_pages s (renamed_pages s a.meaning id name) ≡ Some k
RenameStands s bs a id name refusal.Exhausted = 0xFFFFFFFFFFFFFFFF < a.scan.top_sqnum + 2
RenameStands s bs a id name refusal.NoFree = length (takeable s bs a.states) < 2
RenameStands s bs a id name _ = ⊥

-- the place of a cause in their order
abbrev pub rename_rank : RenameRefusal → ℕ
rename_rank refusal.NoVolume = 1
rename_rank refusal.BadName = 2
rename_rank (refusal.SameName _) = 3
rename_rank refusal.NeedsRepair = 4
rename_rank (refusal.WeakCheck _) = 5
rename_rank refusal.Exhausted = 6
rename_rank refusal.NoFree = 7
rename_rank _ = 0

-- a cause applies, and none before it in their order does
pub record IsFirstCause (s : Sizes) (bs : List (List ℕ)) (a : AttachValue) (id : ℕ) (name : List ℕ) (c : RenameRefusal) : Type 0 where
  pub stands : RenameStands s bs a id name c
  pub first : (d : RenameRefusal) → rename_rank d < rename_rank c → RenameStands s bs a id name d → ⊥
