-- What one copy of a table gives.
use Rattle.std.specs.Prelude.{◌≡◌, ℕ, ◌<◌, false, List, Option, Some, None}
use Rattle.ubi_media.specs.Geometry.{Sizes}
use Rattle.ubi_media.specs.declared.refusal.Refusal.{Refusal}
use Rattle.ubi_media.specs.declared.refusal.Refusal.TheVariants as refusal
use Rattle.ubi_scan.specs.Members.{layout, Wins}
use Rattle.ubi_scan.specs.Source.{Agreed, Source, WhereHeld, blocks_in, blocks_of}
use Rattle.ubi_scan.specs.Stream.{IsReadFault}
use Rattle.ubi_scan.specs.declared.errors.StreamError.{StreamError}
use Rattle.ubi_scan.specs.declared.errors.StreamError.TheVariants as stream
use Rattle.ubi_table.specs.Records.{Records, space, HasSpace}
use Rattle.ubi_table.specs.Table.{CopyIs, can_decide}
use Rattle.ubi_table.specs.declared.copy.CopyRead.{CopyRead}
use Rattle.ubi_table.specs.declared.copy.CopyRead.TheVariants as copy

-- what a copy that isn't refused gives: no table if it can't decide, or else its table, which fits the device
abbrev pub IsCopyTable : Sizes → List (List ℕ) → ℕ → Option Records → Type 0
IsCopyTable s bs c None = (what : CopyRead) × CopyIs s bs c what × (can_decide what ≡ false)
IsCopyTable s bs c (Some t) = CopyIs s bs c (copy.Good t) × HasSpace s t

-- why a copy that decides gives no table
abbrev pub IsCopyFault : Sizes → List (List ℕ) → ℕ → Refusal → Type 0
IsCopyFault s bs c (refusal.Record p slot fault) = CopyIs s bs c (copy.Faulty slot fault) × Wins s bs (layout, c) p
IsCopyFault s bs c (refusal.SameName p i j) = CopyIs s bs c (copy.Twice i j) × Wins s bs (layout, c) p
IsCopyFault s bs c refusal.NoSpace = (t : Records) × CopyIs s bs c (copy.Good t) × (s.pebs < space t)
IsCopyFault s bs c _ = ⊥

-- the table of a copy of a source
pub record IsCopyTableOf (s : Sizes) (agrees : Agreed) (c : ℕ) (t : Option Records) : Type 0 where
  pub held : WhereHeld agrees (λ bytes. IsCopyTable s (blocks_of s bytes) c t)

-- why a copy of a source gives no table
abbrev pub IsCopyOfError : Sizes → Source → Agreed → ℕ → StreamError → Type 0
IsCopyOfError s k agrees c (stream.Refused cause) = WhereHeld agrees (λ bytes. IsCopyFault s (blocks_of s bytes) c cause)
IsCopyOfError s k agrees c (stream.Read p written) = IsReadFault (blocks_in s k) (stream.Read p written)
IsCopyOfError s k agrees c (stream.Write _) = ⊥
IsCopyOfError s k agrees c stream.Memory = Unit {0}
