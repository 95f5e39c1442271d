-- A dump as it is read: the pages of a part of a file, with 0xFF in place of bad eraseblocks and of those before the part.
use Rattle.std.specs.Prelude.{◌≡◌, ℕ, ◌*◌, ◌+◌, ◌++◌, ◌/◌, ◌%◌, ◌==◌, ◌&&◌, Bool, IfSome, List, [], None, Option, Some, drop, false, if◌then◌else◌, length, min, option_map, replicate, true}
use Rattle.std.specs.Option.{option_map_or}
use Rattle.ubi_media.specs.Fields.{blank}
use Rattle.ubi_files.specs.BadBlocks.{bad_marks, masked}
use Rattle.ubi_files.specs.Disk.{Files}
use Rattle.ubi_files.specs.Numbers.{greatest_numbers, sizes_of}
use Rattle.ubi_files.specs.Views.{misfit, most_of_part, pages_of, part_of}
use Rattle.ubi_files.specs.declared.dump.Dump.{Dump}
use Rattle.ubi_files.specs.declared.view.FilePart.{FilePart}
use Rattle.ubi_files.specs.declared.view.Misfit.{Misfit}

-- how many bytes of the file an eraseblock has, with its out-of-band bytes
abbrev pub raw_size : Dump → ℕ
raw_size dump = let s = sizes_of dump.numbers in s.peb_size / s.page * (s.page + dump.oob)

-- whether the part begins with an eraseblock of the file
abbrev pub begins_with_block : Dump → Bool
begins_with_block dump = dump.part.start % raw_size dump == 0

-- how many eraseblocks of the file lie before the part, if they count and the part begins with one; if it doesn't, none counts
abbrev pub blocks_before : Dump → ℕ
blocks_before dump =
    if dump.counts_before && begins_with_block dump then dump.part.start / raw_size dump else 0

-- what is read of these
abbrev pub before : Dump → List ℕ
before dump = blank (blocks_before dump * (sizes_of dump.numbers).peb_size)

-- marks of eraseblocks, of which the first n are marked too
abbrev pub with_first : ℕ → List Bool → List Bool
with_first n marks = replicate n true ++ drop n marks

-- whether each eraseblock of the device lies before the part, or the words list it as bad; there are no more marks than that needs
abbrev pub marks_of : Dump → List Bool
marks_of dump =
    let pebs = (sizes_of dump.numbers).pebs in
    with_first (min pebs (blocks_before dump)) (option_map_or (λ list. bad_marks pebs list.now) dump.bad [])

-- the bytes of a file, as they are read: the eraseblocks before the part are there too, so that all are counted from its beginning
abbrev pub viewed : Dump → List ℕ → List ℕ
viewed dump bytes =
    let s = sizes_of dump.numbers in
    masked s.peb_size (marks_of dump) (before dump ++ pages_of s.page dump.oob (part_of dump.part bytes))

-- the files, each as a dump is read
abbrev pub seen : Dump → Files → Files
seen dump d = record d { holds = λ path. option_map (viewed dump) (d.holds path) }

-- why a file of this size can't be read so, if it can't
abbrev pub misfit_of : Dump → ℕ → Option Misfit
misfit_of dump n = misfit dump.part (sizes_of dump.numbers).page dump.oob n

-- how many bytes of the part are read at most, if the file is read whole
abbrev pub most_of : Dump → ℕ
most_of dump = let s = sizes_of dump.numbers in most_of_part dump.part (s.pebs * s.peb_size) s.page dump.oob

-- how many bytes of a file of n bytes are then read, with those before the part
abbrev pub whole_len : Dump → ℕ → ℕ
whole_len dump n = min (dump.part.start + most_of dump) n

-- the named file can be read so, if it is known what it holds
abbrev pub Fits : Files → Dump → List ℕ → Type 0
Fits d dump path = IfSome (d.holds path) (λ all. misfit_of dump (length all) ≡ None)

-- the dump as far as it is then read: if a part is longer than the device, no more than that
abbrev pub as_read : Dump → Dump
as_read dump = record dump { part = record dump.part { length = option_map (λ n. min n (most_of dump)) dump.part.length } }

-- the named file can be read so if it is read whole
abbrev pub FitsWhole : Files → Dump → List ℕ → Type 0
FitsWhole d dump path = IfSome (d.holds path) (λ all. misfit_of (as_read dump) (whole_len dump (length all)) ≡ None)

-- for a file of unknown geometry, a part of the greatest dump that there is; no eraseblock before it counts
abbrev pub greatest_dump : FilePart → Dump
greatest_dump part = record {
  numbers = greatest_numbers;
  part = part;
  oob = 0;
  bad = None;
  counts_before = false;
}
