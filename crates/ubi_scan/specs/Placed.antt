-- What is known of a file that is read at places.
use Rattle.std.specs.Prelude.{◌≡◌, ℕ, List, drop, length, take}
use Rattle.std.specs.List.{All}

-- bytes stand in a file from a place on
abbrev pub StandsAt : List ℕ → ℕ → List ℕ → Type 0
StandsAt all at bytes = bytes ≡ take (length bytes) (drop at all)

-- each read answered what stands in the file at its place
abbrev pub AllStand : List (ℕ × List ℕ) → List ℕ → Type 0
AllStand reads all = All (λ read. StandsAt all read.0 read.1) reads

-- a file is as long as a source over it says, and the reads answered what stands in it
pub record IsSourceOf (all : List ℕ) (len : ℕ) (reads : List (ℕ × List ℕ)) : Type 0 where
  pub sized : length all ≡ len
  pub answered : AllStand reads all
