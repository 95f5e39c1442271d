-- Why there is no table, and the table of a source.
use Rattle.std.specs.Prelude.{ℕ, List, ◌≡◌}
use Rattle.ubi_media.specs.Geometry.{Sizes}
use Rattle.ubi_media.specs.declared.refusal.AttachError.{AttachError}
use Rattle.ubi_media.specs.declared.refusal.AttachError.TheVariants as attach
use Rattle.ubi_scan.specs.Source.{Agreed, Source, WhereHeld, blocks_in, blocks_of}
use Rattle.ubi_scan.specs.Stream.{IsReadFault}
use Rattle.ubi_scan.specs.declared.errors.StreamError.{StreamError}
use Rattle.ubi_scan.specs.declared.errors.StreamError.TheVariants as stream
use Rattle.ubi_table.specs.Records.{HasSpace, Records}
use Rattle.ubi_table.specs.Table.{IsTableFault, IsTable}
use Rattle.ubi_table.specs.declared.copy.CopyRead.{CopyRead}
use Rattle.ubi_table.specs.declared.copy.CopyRead.TheVariants as copy

-- an error: memory ran out, or why there is no table
abbrev pub IsTableError : Sizes → List (List ℕ) → AttachError → Type 0
IsTableError s bs attach.Memory = Unit {0}
IsTableError s bs (attach.Refused c) = IsTableFault s bs c

-- the table of a source: it has these sizes, its volumes fit the device, and it is right for the eraseblocks of whatever
-- the source may hold
pub record IsTableOf (s : Sizes) (agrees : Agreed) (t : Records) : Type 0 where
  pub sizes : t.sizes ≡ s
  pub space : HasSpace s t
  pub held : WhereHeld agrees (λ bytes. IsTable s (blocks_of s bytes) t)

-- why a source has no table: the eraseblocks of whatever the source may hold have none for this cause; or a read failed;
-- or memory ran out
abbrev pub IsTableOfError : Sizes → Source → Agreed → StreamError → Type 0
IsTableOfError s k agrees (stream.Refused c) = WhereHeld agrees (λ bytes. IsTableFault s (blocks_of s bytes) c)
IsTableOfError s k agrees (stream.Read p written) = IsReadFault (blocks_in s k) (stream.Read p written)
IsTableOfError s k agrees (stream.Write _) = ⊥
IsTableOfError s k agrees stream.Memory = Unit {0}

-- the table of a copy, if it is one, has these sizes
abbrev pub HasSizes : Sizes → CopyRead → Type 0
HasSizes s (copy.Good t) = t.sizes ≡ s
HasSizes s _ = Unit {0}

-- why a copy can't be read: a read failed, or memory ran out
abbrev pub IsCopyReadError : ℕ → StreamError → Type 0
IsCopyReadError n stream.Memory = Unit {0}
IsCopyReadError n e = IsReadFault n e
