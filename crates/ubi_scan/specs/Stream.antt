-- What a call that scans answers, over bytes or over a source.
use Rattle.std.specs.Prelude.{ℕ, List, ◌≡◌, ◌/◌, ◌<◌, ◌⊎◌, length, Result, Ok, Err, IfSome}
use Rattle.std.specs.FinMap.{get}
use Rattle.ubi_media.specs.Geometry.{Sizes}
use Rattle.ubi_media.specs.declared.refusal.AttachError.{AttachError}
use Rattle.ubi_media.specs.declared.refusal.AttachError.TheVariants as attach
use Rattle.ubi_scan.specs.Faults.{IsScanFault}
use Rattle.ubi_scan.specs.Image.{IsLengthFault, IsWholeSize}
use Rattle.ubi_scan.specs.Members.{Leb}
use Rattle.ubi_scan.specs.Scan.{Found, IsScan}
use Rattle.ubi_scan.specs.Source.{Agreed, Source, WhereHeld, blocks_in, blocks_of, failed}
use Rattle.ubi_scan.specs.declared.errors.StreamError.{StreamError}
use Rattle.ubi_scan.specs.declared.errors.StreamError.TheVariants as stream

-- an error: memory ran out, or the eraseblocks are refused for their cause
abbrev pub IsScanError : Sizes → List (List ℕ) → AttachError → Type 0
IsScanError s bs attach.Memory = Unit {0}
IsScanError s bs (attach.Refused c) = IsScanFault s bs c

-- what is known of a source after a call that failed: one read failed if the answer is Read, and none if it isn't
abbrev pub after_error : Source → StreamError → Source
after_error k (stream.Read _ _) = failed k
after_error k _ = k

-- what is known of a source after any call
abbrev pub after : {A : Type 0} → Source → Result A StreamError → Source
after k (Ok _) = k
after k (Err e) = after_error k e

-- a read of one of n eraseblocks failed, before anything was written
abbrev pub IsReadFault : ℕ → StreamError → Type 0
IsReadFault n (stream.Read p written) = (p < n) × (written ≡ 0)
IsReadFault n _ = ⊥

-- why a question about n eraseblocks has no answer: a read of one of them failed, or memory ran out
abbrev pub IsReadFailure : ℕ → StreamError → Type 0
IsReadFailure n stream.Memory = Unit {0}
IsReadFailure n e = IsReadFault n e

-- a failed read, which began at a place, names the eraseblock in which the place lies
abbrev pub NamesBlock : Sizes → ℕ → StreamError → Type 0
NamesBlock s at (stream.Read p written) = p ≡ at / s.peb_size
NamesBlock s at _ = Unit {0}

-- each eraseblock that a scan names is one of n
pub record LiesWithin (n : ℕ) (found : Found) : Type 0 where
  pub winners : (of : Leb) → IfSome (get found.winners of) (λ p. p < n)
  pub states : length found.states ≡ n

-- what a scan of a source finds: it lies in the source, and it is right for the eraseblocks of whatever the source may hold
pub record IsScanOf (s : Sizes) (k : Source) (agrees : Agreed) (found : Found) : Type 0 where
  pub whole : IsWholeSize s k.size
  pub within : LiesWithin (blocks_in s k) found
  pub held : WhereHeld agrees (λ bytes. IsScan s (blocks_of s bytes) found)

-- why a scan of a source fails: the source's size isn't that of an image; or it is, and the eraseblocks are refused for
-- their fault; or a read failed; or memory ran out
abbrev pub IsScanOfError : Sizes → Source → Agreed → StreamError → Type 0
IsScanOfError s k agrees (stream.Refused c) =
    IsLengthFault s k.size c ⊎ (IsWholeSize s k.size × WhereHeld agrees (λ bytes. IsScanFault s (blocks_of s bytes) c))
IsScanOfError s k agrees (stream.Read p written) = IsWholeSize s k.size × IsReadFault (blocks_in s k) (stream.Read p written)
IsScanOfError s k agrees (stream.Write _) = ⊥
IsScanOfError s k agrees stream.Memory = Unit {0}
