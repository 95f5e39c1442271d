-- What a writer received of a volume.
use Rattle.std.specs.Prelude.{◌≡◌, ℕ, ◌<◌, List, length, take, Option, Ok, Err}
use Rattle.std.specs.Io.KnownBytes.{Appends, Keeps}
use Rattle.ubi_volume.specs.Meant.{Meant}
use Rattle.ubi_volume.specs.Reading.{read_volume}
use Rattle.ubi_volume.specs.declared.errors.ReadError.{ReadError}
use Rattle.ubi_volume.specs.declared.errors.ReadError.TheVariants as error

-- the writer received all the volume's bytes, n in number
abbrev pub IsWritten : Meant → ℕ → Option (List ℕ) → Option (List ℕ) → ℕ → Type 0
IsWritten m id old new n = (text : List ℕ) × (read_volume m id ≡ Ok text) × (n ≡ length text) × Appends old new text

-- the writer failed after the first n of the volume's bytes, but not all; or the volume can't be read, and the writer received nothing
abbrev pub IsNotWritten : Meant → ℕ → Option (List ℕ) → Option (List ℕ) → ReadError → Type 0
IsNotWritten m id old new (error.Write n) =
    (text : List ℕ) × (read_volume m id ≡ Ok text) × (n < length text) × Appends old new (take n text)
IsNotWritten m id old new error.Memory = ⊥
IsNotWritten m id old new e = (read_volume m id ≡ Err e) × Keeps old new
