-- Records that are being edited: two of them may have one name.
use Rattle.std.specs.BTreeMap.{BTreeMap, IsOrdered}
use Rattle.std.specs.FinMap.{entries, from_entries, get, insert, remove}
use Rattle.std.specs.Ordering.{nat_cmp}
use Rattle.std.specs.Prelude.{◌≡◌, ℕ, ◌<◌, None, Some}
use Rattle.ubi_media.specs.Geometry.{Sizes, slots}
use Rattle.ubi_media.specs.Record.{rec_fault}
use Rattle.ubi_media.specs.declared.record.VolumeRecord.{VolumeRecord}
use Rattle.ubi_table.specs.Records.{Records, twice}
use Rattle.ubi_table.specs.declared.draft.DraftError.{DraftError}
use Rattle.ubi_table.specs.declared.draft.DraftError.TheVariants as draft

-- what holds for the records of each draft: their numbers are those of slots, and they break no rule
pub record AreDrafted (t : Records) : Type 0 where
  pub slot : (id : ℕ) (r : VolumeRecord) → get t.of id ≡ Some r → id < slots t.sizes
  pub sound : (id : ℕ) (r : VolumeRecord) → get t.of id ≡ Some r → rec_fault t.sizes r ≡ None

-- a map that holds such records
pub record IsHeld (s : Sizes) (held : BTreeMap ℕ VolumeRecord) : Type 0 where
  pub ordered : IsOrdered nat_cmp held
  pub drafted : AreDrafted (record { sizes = s; of = from_entries held.entries })

-- records with this one for a volume
abbrev pub with_record : Records → ℕ → VolumeRecord → Records
with_record t id r = record t { of = insert t.of id r }

-- records without the one of a volume
abbrev pub without_record : Records → ℕ → Records
without_record t id = record t { of = remove t.of id }

-- why records are no table: two have one name; or memory ran out
abbrev pub ComesTwice : Records → DraftError → Type 0
ComesTwice t (draft.Twice i j) = twice (entries t.of) ≡ Some (i, j)
ComesTwice t draft.Memory = Unit {0}
