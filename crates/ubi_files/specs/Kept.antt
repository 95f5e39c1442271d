-- What is kept of the part of a file.
use Rattle.std.specs.Prelude.{◌≡◌, ◌≤◌, ℕ, IfSome, List, length}
use Rattle.ubi_files.specs.Disk.{Files}
use Rattle.ubi_files.specs.Views.{part_of}
use Rattle.ubi_files.specs.declared.dump.Dump.{Dump}

-- these are all bytes of the part of a file, and the part lies in the file
abbrev pub IsPartOf : Files → Dump → List ℕ → List ℕ → Type 0
IsPartOf d dump path bytes = IfSome (d.holds path) (λ all. (bytes ≡ part_of dump.part all) × (dump.part.start ≤ length all))
