-- An entry of a table with another name.
use Rattle.std.specs.Prelude.{ℕ, ◌==◌, List, if◌then◌else◌}
use Rattle.ubi_media.specs.declared.record.VolumeRecord.{VolumeRecord}
use Rattle.ubi_table.specs.Named.{with_name}

-- an entry with another name, if it has this number
abbrev pub entry_named : ℕ → List ℕ → ℕ × VolumeRecord → ℕ × VolumeRecord
entry_named id name e = (e.0, (if e.0 == id then with_name e.1 name else e.1))
