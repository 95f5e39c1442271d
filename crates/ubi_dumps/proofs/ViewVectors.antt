-- What is seen of files, on literals.
use Rattle.ubi_dumps.proofs.Prelude.{true, blocks_before, ◌≡◌, ◌∷◌, [], List, refl, ℕ, Bor, Detected, as_read, misfit_of, told_dump, viewed, whole_len, misfit, pages_of, part_of, Dump, Sought, FilePart}
use Rattle.std.proofs.Common.{Some, None}
use Rattle.std.proofs.Common.{Option, codes}
use Rattle.ubi_files.specs.declared.view.Misfit.TheVariants as why

abbrev bytes : List ℕ
bytes = 0 ∷ 1 ∷ 2 ∷ 3 ∷ 4 ∷ 5 ∷ 6 ∷ 7 ∷ 8 ∷ 9 ∷ 10 ∷ 11 ∷ 12 ∷ 13 ∷ []

abbrev at : ℕ → Option ℕ → FilePart
at start length = record { start = start; length = length }

-- ---- parts

from_third : part_of (at 3 None) bytes ≡ 3 ∷ 4 ∷ 5 ∷ 6 ∷ 7 ∷ 8 ∷ 9 ∷ 10 ∷ 11 ∷ 12 ∷ 13 ∷ []
from_third = refl

four_from_third : part_of (at 3 (Some 4)) bytes ≡ 3 ∷ 4 ∷ 5 ∷ 6 ∷ []
four_from_third = refl

none_at_the_end : part_of (at 14 None) bytes ≡ []
none_at_the_end = refl

none_of_it : part_of (at 3 (Some 0)) bytes ≡ []
none_of_it = refl

-- ---- pages

pages_of_two : pages_of 2 1 bytes ≡ 0 ∷ 1 ∷ 3 ∷ 4 ∷ 6 ∷ 7 ∷ 9 ∷ 10 ∷ 12 ∷ 13 ∷ []
pages_of_two = refl

pages_of_four : pages_of 4 3 bytes ≡ 0 ∷ 1 ∷ 2 ∷ 3 ∷ 7 ∷ 8 ∷ 9 ∷ 10 ∷ []
pages_of_four = refl

pages_alone : pages_of 4 0 bytes ≡ bytes
pages_alone = refl

-- ---- files that can't be seen so: of 14 bytes

begins_behind : misfit (at 15 None) 2 0 14 ≡ Some (why.Part 14)
begins_behind = refl

begins_at_the_end : misfit (at 14 None) 2 0 14 ≡ None
begins_at_the_end = refl

ends_behind : misfit (at 4 (Some 11)) 2 0 14 ≡ Some (why.Part 14)
ends_behind = refl

ends_at_the_end : misfit (at 4 (Some 10)) 2 0 14 ≡ None
ends_at_the_end = refl

-- pages of two bytes with five behind them are two; with four they are two, and two bytes are left, a page that lacks its own
whole_pages : misfit (at 0 None) 2 5 14 ≡ None
whole_pages = refl

page_left : misfit (at 0 None) 2 4 14 ≡ Some (why.Pages 2)
page_left = refl

bytes_left : misfit (at 1 (Some 8)) 2 5 14 ≡ Some (why.Pages 1)
bytes_left = refl

part_first : misfit (at 1 (Some 14)) 2 4 14 ≡ Some (why.Part 14)
part_first = refl

-- ---- all of it: of the bytes 1 to 12 the pages of two bytes, with one behind each; and of the two eraseblocks of two pages the second is
-- bad

abbrev bad : Bor (List ℕ)
bad = record { ref_ptr = (0, 0); now = codes "1" }

abbrev dump : Dump
dump = record {
  numbers = record {
    peb_size = 4;
    page = 2;
    vid_offset = None;
    data_offset = None;
    pebs = Some 2;
  };
  part = at 1 (Some 12);
  oob = 1;
  bad = Some bad;
  counts_before = true;
}

all_of_it : viewed dump bytes ≡ 1 ∷ 2 ∷ 4 ∷ 5 ∷ 255 ∷ 255 ∷ 255 ∷ 255 ∷ []
all_of_it = refl

it_fits : misfit_of dump 14 ≡ None
it_fits = refl

-- the pages of the device and one more are five, of three bytes each; and no more is read than the part has
read_whole : whole_len dump 100 ≡ 13
read_whole = refl

read_of_device : whole_len (record dump { part = at 1 None }) 100 ≡ 16
read_of_device = refl

-- where the file is read whole, of a longer part no more is looked for than five pages have
fits_as_read : misfit_of (as_read (record dump { part = at 1 (Some 90) })) (whole_len (record dump { part = at 1 (Some 90) }) 100) ≡ None
fits_as_read = refl

too_long : misfit_of (record dump { part = at 1 (Some 100) }) 100 ≡ Some (why.Part 100)
too_long = refl

-- what is told of a part of a file, as a dump: its place counts from the beginning of the file
abbrev sought : Sought
sought = record { part = at 512 None; pebs = Some 32; bad = Some bad }

abbrev found : Detected
found = record {
  geometry = record { peb_size = 4096; page = 256; vid_offset = 256; data_offset = 512; pebs = 1048576 };
  oob = 16;
  start = 64;
  length = 8704;
}

as_told : told_dump sought found ≡ record {
  numbers = record { peb_size = 4096; page = 256; vid_offset = Some 256; data_offset = Some 512; pebs = Some 32 };
  part = at 576 (Some 8704);
  oob = 16;
  bad = Some bad;
  counts_before = true;
}
as_told = refl

-- ---- the eraseblocks of six bytes before a part that begins with the third one count, and none does before one that begins within it

counted : blocks_before (record dump { part = at 12 None }) ≡ 2
counted = refl

not_counted : blocks_before (record dump { part = at 13 None }) ≡ 0
not_counted = refl
