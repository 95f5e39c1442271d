-- A meaning: the image sequence number, and the volumes by their numbers, each with its record and what it reads. And how a
-- static volume's contents are cut into LEBs.
use Rattle.std.specs.Prelude.{◌≡◌, ◌≢◌, ℕ, ◌+◌, ◌*◌, ◌^◌, ◌<◌, ◌≤◌, true, false, map, Some, None, IfSome, sum_by, length, ◌-◌, ◌/◌, List, take, drop}
use Rattle.std.specs.FinMap.{FinMap, get, entries, from_entries, values}
use Rattle.std.specs.Ordering.{nat_cmp}
use Rattle.ubi_media.specs.Fields.{blank}
use Rattle.ubi_media.specs.Geometry.{Sizes, slots}
use Rattle.ubi_media.specs.Record.{usable, rec_fault}
use Rattle.ubi_media.specs.declared.record.VolumeRecord.{VolumeRecord}
use Rattle.ubi_media.specs.declared.vid.VolKind.TheVariants as kind
use Rattle.ubi_table.specs.Records.{Records}
use Rattle.ubi_volume.specs.declared.content.Content.{Content}
use Rattle.ubi_volume.specs.declared.content.Content.TheVariants as content
use Rattle.ubi_volume.specs.declared.content.Volume.{Volume}

-- volumes by their numbers
abbrev pub VolumeMap : Type 0
VolumeMap = FinMap nat_cmp Volume

-- volumes under sizes, and the image sequence number
pub record Meant : Type 0 where
  pub sizes : Sizes
  pub image_seq : ℕ
  pub volumes : VolumeMap

-- the records of a meaning
abbrev pub records_of : Meant → Records
records_of m = record { sizes = m.sizes; of = from_entries (map (λ e. (e.0, e.1.entry)) (entries m.volumes)) }

-- a content is one that its volume can have
abbrev pub Fits : Sizes → VolumeRecord → Content → Type 0
Fits s r content.Updating = r.marker ≡ true
Fits s r content.Damaged = (r.marker ≡ false) × (r.kind ≡ kind.Static)
Fits s r (content.Static text) = (r.marker ≡ false) × (r.kind ≡ kind.Static) × (length text ≤ r.reserved * usable s r)
Fits s r (content.Dynamic lebs) =
    (r.marker ≡ false) × (r.kind ≡ kind.Dynamic)
    × ((lnum : ℕ) → IfSome (get lebs lnum) (λ text. (lnum < r.reserved) × (length text ≡ usable s r)))

-- no LEB that is 0xFF throughout is kept
abbrev pub KeepsNoBlank : Sizes → VolumeRecord → Content → Type 0
KeepsNoBlank s r (content.Dynamic lebs) = (lnum : ℕ) → IfSome (get lebs lnum) (λ text. text ≢ blank (usable s r))
KeepsNoBlank s r _ = Unit {0}

-- one volume of a meaning
pub record IsVolume (s : Sizes) (id : ℕ) (v : Volume) : Type 0 where
  pub slot : id < slots s
  pub sound : rec_fault s v.entry ≡ None
  pub fits : Fits s v.entry v.content
  pub kept : KeepsNoBlank s v.entry v.content

-- two volumes with one name are the same volume
abbrev pub HasDistinctNames : VolumeMap → Type 0
HasDistinctNames volumes =
    (i j : ℕ) (v w : Volume) → get volumes i ≡ Some v → get volumes j ≡ Some w → v.entry.name ≡ w.entry.name → i ≡ j

-- the values that are meanings
pub record IsMeaning (m : Meant) : Type 0 where
  pub image_seq : m.image_seq < 2 ^ 32
  pub each : (id : ℕ) → IfSome (get m.volumes id) (IsVolume m.sizes id)
  pub names : HasDistinctNames m.volumes
  pub space : 2 + sum_by (λ v. v.entry.reserved) (values m.volumes) ≤ m.sizes.pebs

-- how many pieces of a size a length has, the last perhaps short
abbrev pub pieces : ℕ → ℕ → ℕ
pieces size n = (n + (size - 1)) / size

-- the share of a static volume's contents that stands in a LEB
abbrev pub share : ℕ → List ℕ → ℕ → List ℕ
share size text lnum = take size (drop (lnum * size) text)
