-- What a writer received of bytes that come from the image of a source.
use Rattle.std.specs.Prelude.{◌≡◌, ℕ, ◌+◌, ◌<◌, ◌≤◌, List, length, take, Option}
use Rattle.std.specs.Io.KnownBytes.{Appends}
use Rattle.ubi_media.specs.Geometry.{Sizes}
use Rattle.ubi_scan.specs.Source.{Agreed, Source, WhereHeld, blocks_in}
use Rattle.ubi_scan.specs.declared.errors.StreamError.{StreamError}
use Rattle.ubi_scan.specs.declared.errors.StreamError.TheVariants as stream

-- which bytes are to be written, by the bytes of the image
abbrev pub Wanted : Type 1
Wanted = List ℕ → List ℕ → Type 0

-- n is all of `size` bytes
abbrev pub All : ℕ → ℕ → Type 0
All n size = n ≡ size

-- n is some of `size` bytes, or all
abbrev pub First : ℕ → ℕ → Type 0
First n size = n ≤ size

-- n is some of `size` bytes, but not all
abbrev pub NotAll : ℕ → ℕ → Type 0
NotAll n size = n < size

-- the writer received bytes, n with those before; they are the first of those wanted, and as many as `many` says, for
-- whatever image the source may hold
pub record Wrote (agrees : Agreed) (old new : Option (List ℕ)) (wanted : Wanted) (many : ℕ → ℕ → Type 0) (before n : ℕ) : Type 0 where
  pub bytes : List ℕ
  pub got : Appends old new bytes
  pub count : n ≡ before + length bytes
  pub held : WhereHeld agrees (λ image. (text : List ℕ) → wanted image text → many (length bytes) (length text) × (bytes ≡ take (length bytes) text))

-- why the writer didn't receive all: a read failed after the first of them, or a write did
abbrev pub IsWroteError : Sizes → Source → Agreed → Option (List ℕ) → Option (List ℕ) → Wanted → ℕ → StreamError → Type 0
IsWroteError s k agrees old new wanted before (stream.Read p n) = (p < blocks_in s k) × Wrote agrees old new wanted First before n
IsWroteError s k agrees old new wanted before (stream.Write n) = Wrote agrees old new wanted NotAll before n
IsWroteError s k agrees old new wanted before _ = ⊥
