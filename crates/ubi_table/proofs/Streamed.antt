-- The table of a source, by its copies.
use Rattle.ubi_table.proofs.Prelude.{ℕ, ◌<◌, List, refl, None, Option, Some, find, Sizes, RecRead, Agreed, Source, WhereHeld, blocks_of, StreamError, HasSizes, IsCopyOfError, is_faulty, readings, records_in, twice, IsTableOfError, copy_by, copy_of, named_copy}
use Rattle.ubi_media.specs.declared.record.RecRead.TheVariants as read
use Rattle.ubi_scan.specs.declared.errors.StreamError.TheVariants as stream
use Rattle.ubi_table.proofs.Deciding.{NoneDecides, fault_chosen}

-- the table of a copy has the sizes by which it was read
module _ (s : Sizes) (bytes : List ℕ) where
  named_sizes : (o : Option (ℕ × ℕ)) → HasSizes s (named_copy s bytes o)
  named_sizes (Some (i, j)) = tt
  named_sizes None = refl

  sizes_by : (o : Option (ℕ × RecRead)) → HasSizes s (copy_by s bytes o)
  sizes_by (Some (slot, read.BadCrc)) = tt
  sizes_by (Some (slot, read.Fault fault)) = tt
  sizes_by (Some (slot, read.Empty)) = named_sizes (twice (records_in s bytes))
  sizes_by (Some (slot, read.Valid r)) = named_sizes (twice (records_in s bytes))
  sizes_by None = named_sizes (twice (records_in s bytes))

  pub copy_sizes : HasSizes s (copy_of s bytes)
  unfolding copy_of
  copy_sizes = sizes_by (find (λ e. is_faulty e.1) (readings s bytes))

-- why a copy gives none is why there is none
pub error_of_copy : (s : Sizes) (k : Source) (agrees : Agreed) (c : ℕ) (e : StreamError) → c < 2
    → WhereHeld agrees (λ bytes. NoneDecides s (blocks_of s bytes) c) → IsCopyOfError s k agrees c e
    → IsTableOfError s k agrees e
error_of_copy s k agrees c (stream.Refused cause) l none h = λ bytes holds. fault_chosen s (blocks_of s bytes) c cause l
    (none bytes holds) (h bytes holds)
error_of_copy s k agrees c (stream.Read p written) l none h = h
error_of_copy s k agrees c (stream.Write n) l none h = h
error_of_copy s k agrees c stream.Memory l none h = tt
