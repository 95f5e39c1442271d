-- What is known of bytes that are read at places.
use Rattle.std.specs.Prelude.{◌≡◌, ◌↔◌, ℕ, ◌+◌, ◌-◌, ◌/◌, ◌^◌, List, [], ◌∷◌, length, slice_range, None, Option, Some, IfSome, Result, Ok, Err, min}
use Rattle.std.proofs.Common.{ap, sym}
use Rattle.std.proofs.lemmas.Option.{none-some}
use Rattle.ubi_media.specs.Geometry.{Sizes}
use Rattle.ubi_scan.specs.Image.{eraseblocks, image_of}

-- how many bytes a source has, how many of its reads have failed, and which bytes it is promised to hold, if any are
pub record Source : Type 0 where
  pub size : ℕ
  pub failures : ℕ
  pub held : Option (List ℕ)

-- which bytes a source may hold, as far as its reads have shown
abbrev pub Agreed : Type 1
Agreed = List ℕ → Type 0

-- a fact about each list of bytes that a source may hold
abbrev pub WhereHeld : Agreed → (List ℕ → Type 0) → Type 0
WhereHeld agrees fact = (bytes : List ℕ) → agrees bytes → fact bytes

-- what a source may hold now, it could hold before
abbrev pub Narrows : Agreed → Agreed → Type 0
Narrows old new = WhereHeld new old

-- for each source: the bytes that it may hold are as many as its size says
pub record IsSource (k : Source) (agrees : Agreed) : Type 0 where
  pub sized : WhereHeld agrees (λ bytes. length bytes ≡ k.size)

-- for each source: the bytes that it is promised to hold are among those that it may hold
abbrev pub MayHold : Source → Agreed → Type 0
MayHold k agrees = IfSome k.held agrees

-- one more read has failed; their number stays at the greatest of 64 bits
abbrev pub failed : Source → Source
failed k = record k { failures = min (k.failures + 1) (2 ^ 64 - 1) }

-- what is known after a read: what was known before, with one more failure if it failed
abbrev pub after_read : {E : Type 0} → Source → Result (Unit {0}) E → Source
after_read k (Ok _) = k
after_read k (Err _) = failed k

-- reads that were answered, the last one first: where each began, and the bytes that it answered
abbrev pub Reads : Type 0
Reads = List (ℕ × List ℕ)

-- a read of these bytes is noted if it was answered; a failed one shows nothing
abbrev pub noted : {E : Type 0} → Reads → ℕ → List ℕ → Result (Unit {0}) E → Reads
noted reads at bytes (Ok _) = (at, bytes) ∷ reads
noted reads at bytes (Err _) = reads

-- how many whole eraseblocks a source has
abbrev pub blocks_in : Sizes → Source → ℕ
blocks_in s k = k.size / s.peb_size

-- the eraseblocks of bytes
abbrev pub blocks_of : Sizes → List ℕ → List (List ℕ)
blocks_of s bytes = eraseblocks (image_of s bytes)

-- a source over bytes in memory: no read fails, and it holds these bytes
abbrev pub memory : List ℕ → Source
memory bytes = record { size = length bytes; failures = 0; held = Some bytes }

-- a source over bytes in memory holds these and no others
abbrev pub holds : List ℕ → Agreed
holds bytes = λ held. held ≡ bytes

-- what memory holds is as long as its size
pub memory_sized : (bytes : List ℕ) → IsSource (memory bytes) (holds bytes)
memory_sized bytes = record { sized = λ held is. ap length is }

-- bytes agree with reads, each of which answered some bytes at a place
abbrev pub AgreesWith : Reads → List ℕ → Type 0
AgreesWith [] bytes = Unit {0}
AgreesWith ((at, read) ∷ reads) bytes = (read ≡ slice_range bytes at (at + length read)) × AgreesWith reads bytes

-- a source of some size that is known by its reads: it may hold any bytes with which they agree
abbrev pub known_by : ℕ → Reads → Agreed
known_by size reads = λ bytes. (length bytes ≡ size) × AgreesWith reads bytes

-- a source may hold just what its size and its reads say
abbrev pub AreKnownBy : ℕ → Reads → Agreed → Type 0
AreKnownBy size reads agrees = (bytes : List ℕ) → agrees bytes ↔ known_by size reads bytes

-- a source over memory promises its bytes
pub memory_owned : (bytes : List ℕ) → Some bytes ≡ None → AreKnownBy (length bytes) [] (holds bytes)
memory_owned bytes none = absurd (none-some bytes (sym none))

-- what is known of a file by its reads is just that
pub file_owned : (size : ℕ) (reads : Reads) → AreKnownBy size reads (known_by size reads)
file_owned size reads = λ bytes. (λ agrees. agrees, λ agrees. agrees)

-- what agrees with reads of a file is as long as its size
pub file_sized : (k : Source) (reads : Reads) → IsSource k (known_by k.size reads)
file_sized k reads = record { sized = λ bytes agrees. agrees.0 }
