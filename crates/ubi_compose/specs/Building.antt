-- What building answers, and what the writer then received.
use Rattle.std.specs.Prelude.{◌≡◌, ℕ, ◌+◌, ◌<◌, ◌≤◌, List, Contains, Option, Result, Ok, Err}
use Rattle.ubi_scan.specs.Source.{Agreed, Source, failed}
use Rattle.ubi_volume.specs.Wrote.{First, NotAll, Wanted, Wrote}
use Rattle.ubi_compose.specs.Composed.{composed}
use Rattle.ubi_compose.specs.Built.{Parts, built, most_blocks}
use Rattle.ubi_laid.specs.Parts.{Reaches}
use Rattle.ubi_laid.specs.declared.part.Part.{Part}
use Rattle.ubi_compose.specs.declared.errors.BuildError.{BuildError}
use Rattle.ubi_compose.specs.declared.errors.BuildError.TheVariants as build

-- the bytes wanted are those that a function gives for the source's
abbrev pub those : (List ℕ → List ℕ) → Wanted
those f bytes text = text ≡ f bytes

-- the normal image of what is built, followed by a number of spare eraseblocks
abbrev pub image_built : Parts → ℕ → Wanted
image_built ps spares = those (λ bytes. composed (built ps bytes) spares)

-- a part whose volume has a number
abbrev pub IsNumberedPart : Parts → ℕ → Part → Type 0
IsNumberedPart ps id p = Contains ps.of p × (p.id ≡ id)

-- the device has room for all pieces and the spares, and a source of this size has the bytes of each part
pub record CanBuild (ps : Parts) (spares size : ℕ) : Type 0 where
  pub room : most_blocks ps + spares ≤ ps.sizes.pebs
  pub reaches : Reaches size ps.of

-- why an image can't be built: the device has no room for it, or it has and the bytes of a part lie beyond the source's end
abbrev pub IsRefusedBuild : Parts → ℕ → ℕ → BuildError → Type 0
IsRefusedBuild ps spares size build.TooMany = ps.sizes.pebs < most_blocks ps + spares
IsRefusedBuild ps spares size (build.Beyond id) =
    (most_blocks ps + spares ≤ ps.sizes.pebs) × ((p : Part) × IsNumberedPart ps id p × (size < p.start + p.len))
IsRefusedBuild ps spares size _ = ⊥

-- why nothing is built, or only the first bytes are: it can't be built; or it can, and memory ran out, or a read for a
-- volume failed, or a write failed
abbrev pub IsBuildError : Parts → ℕ → Source → Agreed → Option (List ℕ) → Option (List ℕ) → BuildError → Type 0
IsBuildError ps spares k agrees old new build.Memory = CanBuild ps spares k.size
IsBuildError ps spares k agrees old new (build.Read id n) =
    CanBuild ps spares k.size × ((p : Part) × IsNumberedPart ps id p × Wrote agrees old new (image_built ps spares) First 0 n)
IsBuildError ps spares k agrees old new (build.Write n) =
    CanBuild ps spares k.size × Wrote agrees old new (image_built ps spares) NotAll 0 n
IsBuildError ps spares k agrees old new e = IsRefusedBuild ps spares k.size e

-- a failed read began in the bytes of the part whose volume is named
abbrev pub NamesPart : Part → ℕ → BuildError → Type 0
NamesPart p at (build.Read id n) = (id ≡ p.id) × (p.start ≤ at) × (at < p.start + p.len)
NamesPart p at _ = Unit {0}

-- the volume that is named is that of one of the parts
abbrev pub NamesVolume : Parts → ℕ → BuildError → Type 0
NamesVolume ps at (build.Read id n) = (p : Part) × Contains ps.of p × NamesPart p at (build.Read id n)
NamesVolume ps at _ = Unit {0}

-- a fact that holds if nothing was written
abbrev pub WhereNotBegun : Type 0 → BuildError → Type 0
WhereNotBegun fact (build.Read _ _) = Unit {0}
WhereNotBegun fact (build.Write _) = Unit {0}
WhereNotBegun fact _ = fact

-- what is known of a source after a call that failed: one read failed if the answer is Read
abbrev pub known_then : Source → BuildError → Source
known_then k (build.Read _ _) = failed k
known_then k _ = k

-- what is known of a source after any call
abbrev pub known_after : {A : Type 0} → Source → Result A BuildError → Source
known_after k (Ok _) = k
known_after k (Err e) = known_then k e
