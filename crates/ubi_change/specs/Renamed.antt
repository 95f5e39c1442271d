-- A meaning in which one volume has another name.
use Rattle.std.specs.Prelude.{◌≡◌, ℕ, List, [], option_map}
use Rattle.std.specs.FinMap.{get, insert}
use Rattle.std.specs.Option.{option_map_or}
use Rattle.ubi_table.specs.Named.{with_name}
use Rattle.ubi_volume.specs.Meant.{Meant}
use Rattle.ubi_volume.specs.declared.content.Volume.{Volume}

-- a volume with another name
abbrev pub volume_named : Volume → List ℕ → Volume
volume_named v name = record v { entry = with_name v.entry name }

-- m, except that the volume has this name
abbrev pub renamed : Meant → ℕ → List ℕ → Meant
renamed m id name = option_map_or (λ v. record m { volumes = insert m.volumes id (volume_named v name) }) (get m.volumes id) m

-- a volume without its name
abbrev pub nameless : Volume → Volume
nameless v = volume_named v []

-- two meanings have the same volumes, and each reads the same in both: they differ in names alone
abbrev pub ReadSame : Meant → Meant → Type 0
ReadSame m n = (id : ℕ) → option_map nameless (get n.volumes id) ≡ option_map nameless (get m.volumes id)
