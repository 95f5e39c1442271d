-- How the bytes of a file are seen: which part of it, and which of its bytes are in pages.
use Rattle.std.specs.Prelude.{ℕ, ◌*◌, ◌+◌, ◌-◌, ◌/◌, ◌%◌, ◌==◌, ◌||◌, List, None, Option, Some, drop, filter_map, if◌then◌else◌, min, nat_lt, take, unwrap_or}
use Rattle.std.specs.Bool.{then_some}
use Rattle.std.specs.List.{enumerate_from}
use Rattle.std.specs.Option.{option_map_or}
use Rattle.ubi_files.specs.declared.view.FilePart.{FilePart}
use Rattle.ubi_files.specs.declared.view.Misfit.{Misfit}
use Rattle.ubi_files.specs.declared.view.Misfit.TheVariants as why

-- the part that is the whole file
abbrev pub whole_file : FilePart
whole_file = record { start = 0; length = None }

-- the part of a file: its bytes from the start on, `length` of them, or all if no length is given
abbrev pub part_of : FilePart → List ℕ → List ℕ
part_of part bytes = option_map_or (λ n. take n (drop part.start bytes)) part.length (drop part.start bytes)

-- the bytes in pages, out of bytes that begin at a place; each page is followed by out-of-band bytes
abbrev pub pages_from : ℕ → ℕ → ℕ → List ℕ → List ℕ
pages_from place page oob bytes = filter_map (λ e. then_some (nat_lt (e.0 % (page + oob)) page) e.1) (enumerate_from place bytes)

-- the bytes in pages, out of bytes that begin with a page
abbrev pub pages_of : ℕ → ℕ → List ℕ → List ℕ
pages_of page oob bytes = pages_from 0 page oob bytes

-- how many bytes of a file of n bytes belong to its part
abbrev pub part_len : FilePart → ℕ → ℕ
part_len part n = unwrap_or part.length (n - part.start)

-- why a file of n bytes can't be seen so: its part begins or ends beyond its end; or, if there are out-of-band bytes, the part
-- isn't a whole number of pages with theirs
abbrev pub misfit : FilePart → ℕ → ℕ → ℕ → Option Misfit
misfit part page oob n =
    let rest = part_len part n % (page + oob) in
    if nat_lt n (part.start + unwrap_or part.length 0) then Some (why.Part n)
    else if oob == 0 || rest == 0 then None else Some (why.Pages rest)

-- how many bytes of a part are read at most of a file that is read whole, for a device of a number of bytes: no more than the
-- pages of the device, and one page more, have with their out-of-band bytes
abbrev pub most_of_part : FilePart → ℕ → ℕ → ℕ → ℕ
most_of_part part device page oob = let raw = (device / page + 1) * (page + oob) in min (unwrap_or part.length raw) raw
