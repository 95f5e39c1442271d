-- What is known of files by their paths.
use Rattle.std.specs.Prelude.{◌≡◌, ◌≢◌, ℕ, Bool, IfSome, List, [], ◌++◌, None, Option, Some, codes, false, if◌then◌else◌}
use Rattle.std.specs.Borrow.{Bor}
use Rattle.std.specs.Io.KnownBytes.{Appends}
use Rattle.std.specs.Option.{ForSome}
use Rattle.ubi_media.specs.Geometry.{Sizes}
use Rattle.ubi_scan.specs.Image.{seen_of}
use Rattle.ubi_files.specs.declared.outcome.Outcome.{Outcome}

-- whether it is known what files that are written receive, and what the file at a path holds, if that is known
pub record Files : Type 0 where
  pub tells : Bool
  pub holds : List ℕ → Option (List ℕ)

-- a disk of which nothing is known: other programs may write to it
abbrev pub untold : Files
untold = record { tells = false; holds = λ path. None }

-- what a file that was just opened anew holds: nothing, if it is known what it receives
abbrev pub fresh : Files → Option (List ℕ)
fresh d = if d.tells then Some [] else None

-- what it has received once these bytes were written to it
abbrev pub full_of : Files → List ℕ → Option (List ℕ)
full_of d bytes = if d.tells then Some bytes else None

-- if it is known what the file at a path holds, that is what it received
abbrev pub Holds : Files → List ℕ → Option (List ℕ) → Type 0
Holds d path received = IfSome (d.holds path) (λ bytes. received ≡ Some bytes)

-- once a file that was written is closed, its path holds what it received, and each other path what it held
pub record IsKept (old new : Files) (path : List ℕ) (received : Option (List ℕ)) : Type 0 where
  pub named : Holds new path received
  pub others : (other : List ℕ) → other ≢ path → new.holds other ≡ old.holds other

-- the bytes are those of the named file that are judged
abbrev pub IsJudgedOf : Files → List ℕ → Sizes → List ℕ → Type 0
IsJudgedOf d path s bytes = IfSome (d.holds path) (λ all. bytes ≡ seen_of s all)

-- the bytes are those of the named file
abbrev pub IsTextOf : Files → List ℕ → List ℕ → Type 0
IsTextOf d path bytes = IfSome (d.holds path) (λ all. bytes ≡ all)

-- if work ended with an outcome, the file at a path holds what it received if all is done, and what it held if not
pub record IsLeft (old new : Files) (path : List ℕ) (received : Option (List ℕ)) (o : Outcome) : Type 0 where
  pub done : o.status ≡ 0 → Holds new path received
  pub refused : o.status ≢ 0 → new.holds path ≡ old.holds path

-- each path but one holds what it held
abbrev pub OthersStay : Files → Files → List ℕ → Type 0
OthersStay old new path = (other : List ℕ) → other ≢ path → new.holds other ≡ old.holds other

-- each path that isn't below a folder holds what it held
abbrev pub OutsideStay : Files → Files → List ℕ → Type 0
OutsideStay old new dir = (path : List ℕ) → ((name : List ℕ) → path ≢ dir ++ codes "/" ++ name) → new.holds path ≡ old.holds path

-- each path holds what it held
abbrev pub AllStay : Files → Files → Type 0
AllStay old new = (path : List ℕ) → new.holds path ≡ old.holds path

-- the file at a path holds what it held
abbrev pub Stays : Files → Files → List ℕ → Type 0
Stays old new path = new.holds path ≡ old.holds path

-- each path except two holds what it held; the second may be left out
abbrev pub OthersStayBeside : Files → Files → List ℕ → Option (Bor (List ℕ)) → Type 0
OthersStayBeside old new path second =
    (other : List ℕ) → other ≢ path → ForSome second (λ p. other ≢ p.now) → new.holds other ≡ old.holds other

-- the file at a path received some bytes, if there are any, and holds what it held if not
abbrev pub Receives : Files → Files → List ℕ → Option (List ℕ) → Type 0
Receives old new path None = new.holds path ≡ old.holds path
Receives old new path (Some bytes) = (received : Option (List ℕ)) × Appends (fresh old) received bytes × Holds new path received
