-- A table with another name in one record.
use Rattle.std.specs.Prelude.{◌≡◌, ◌≢◌, ℕ, List, Some}
use Rattle.std.specs.FinMap.{get, insert}
use Rattle.std.specs.Option.{option_map_or}
use Rattle.ubi_media.specs.declared.record.VolumeRecord.{VolumeRecord}
use Rattle.ubi_table.specs.Records.{Records}

-- a record with another name
abbrev pub with_name : VolumeRecord → List ℕ → VolumeRecord
with_name r name = record r { name = name }

-- a table with another name in the record of a volume
abbrev pub records_named : Records → ℕ → List ℕ → Records
records_named t id name = option_map_or (λ r. record t { of = insert t.of id (with_name r name) }) (get t.of id) t

-- no other volume has the name
abbrev pub IsFreeName : Records → ℕ → List ℕ → Type 0
IsFreeName t id name = (slot : ℕ) (r : VolumeRecord) → slot ≢ id → get t.of slot ≡ Some r → r.name ≡ name → ⊥
