-- What was read of the part of a file that is read whole.
use Rattle.std.specs.Prelude.{◌≡◌, ℕ, IfSome, List, drop, length, take}
use Rattle.ubi_files.specs.Disk.{Files}
use Rattle.ubi_files.specs.Dump.{most_of, whole_len}
use Rattle.ubi_files.specs.declared.dump.Dump.{Dump}

-- these are the bytes that are read of the part of a dump, and n is how many were read of its file, with those before the part
pub record IsReadOf (d : Files) (dump : Dump) (path : List ℕ) (read : List ℕ) (n : ℕ) : Type 0 where
  pub bytes : IfSome (d.holds path) (λ all. read ≡ take (most_of dump) (drop dump.part.start all))
  pub len : IfSome (d.holds path) (λ all. n ≡ whole_len dump (length all))
