-- The image of a plan, and what headers in its bad eraseblocks name.
use Rattle.std.specs.Prelude.{◌≡◌, ℕ, ◌*◌, ◌≤◌, List, None, length}
use Rattle.ubi_change.specs.Listed.{Hidden, hidden_in}
use Rattle.ubi_scan.specs.Source.{WhereHeld, blocks_of}
use Rattle.ubi_files.specs.Disk.{Files}
use Rattle.ubi_files.specs.Dump.{marks_of}
use Rattle.ubi_files.specs.Numbers.{sizes_of}
use Rattle.ubi_files.specs.OverFile.{IsUnseen, WhereRead}
use Rattle.ubi_files.specs.declared.dump.Dump.{Dump}
use Rattle.ubi_files.specs.declared.outcome.Outcome.{Outcome}

-- a dump whose bad eraseblocks are read as they are
abbrev pub bare : Dump → Dump
bare dump = record dump { bad = None }

-- this is what headers in bad eraseblocks of these bytes name; bytes that the device hasn't room for aren't judged
abbrev pub IsHiddenOf : Dump → List ℕ → Hidden → Type 0
IsHiddenOf dump bytes h =
    let s = sizes_of dump.numbers in length bytes ≤ s.pebs * s.peb_size → h ≡ hidden_in s (blocks_of s bytes) (marks_of dump)

-- this is what they name in a dump that was read with its bad eraseblocks, whatever it may hold that agrees with the reads
abbrev pub IsHiddenAt : Files → Dump → List ℕ → Hidden → Type 0
IsHiddenAt d dump path h = WhereRead d (bare dump) path (λ k agrees. WhereHeld agrees (λ bytes. IsHiddenOf dump bytes h))

-- what a command that plans can answer for a dump: the answer if it can't be opened; or the answer by what its plan may not bring to life,
-- once that was read
pub data WithHidden (d : Files) (dump : Dump) (path : List ℕ) (answers : Hidden → Outcome → Type 0) : Outcome → Type 0 where
  no_dump : {o : Outcome} → IsUnseen d dump path o → WithHidden d dump path answers o
  hiding : {o : Outcome} (h : Hidden) → IsHiddenAt d dump path h → answers h o → WithHidden d dump path answers o
