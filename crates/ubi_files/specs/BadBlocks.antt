-- The eraseblocks that a word lists as bad, and what is read in their place.
use Rattle.std.specs.Prelude.{ℕ, ◌/◌, ◌==◌, ◌&&◌, ◌||◌, Bool, List, [], ◌∷◌, None, Option, false, filter_map, if◌then◌else◌, is_some, length, map, nat_le, option_and_then, replicate}
use Rattle.std.specs.Bool.{then_some}
use Rattle.std.specs.List.{enumerate_from, list_all, list_any, slice_split}
use Rattle.std.specs.Str.Parse.{without_leading_plus}
use Rattle.ubi_scan.specs.Marks.{is_listed}
use Rattle.ubi_words.specs.Words.{decimal_within, most_number}
use Rattle.ubi_files.specs.declared.bad_blocks.BlockRange.{BlockRange}

-- a number: decimal digits, where a plus may stand first; at most 4294967295
abbrev pub block_number : List ℕ → Option ℕ
block_number word =
    let digits = without_leading_plus word in if length digits == 0 then None else decimal_within most_number digits

-- from one number to another that isn't less
abbrev pub range_between : ℕ → ℕ → Option BlockRange
range_between first last = then_some (nat_le first last) (record { first = first; last = last })

-- the range of the parts of an item, which is cut at its hyphens: one number, or two
abbrev pub range_of_parts : List (List ℕ) → Option BlockRange
range_of_parts [] = None
range_of_parts (one ∷ []) = option_and_then (λ n. range_between n n) (block_number one)
range_of_parts (first ∷ last ∷ []) =
    option_and_then (λ m. option_and_then (λ n. range_between m n) (block_number last)) (block_number first)
range_of_parts (first ∷ last ∷ more ∷ rest) = None

-- the range of an item
abbrev pub range_of : List ℕ → Option BlockRange
range_of item = range_of_parts (slice_split (λ b. b == 45) item)

-- the items of a word: what stands between its commas; there are none if it is empty
abbrev pub list_items : List ℕ → List (List ℕ)
list_items word = if length word == 0 then [] else slice_split (λ b. b == 44) word

-- whether a word is a list: each of its items is a range
abbrev pub is_block_list : List ℕ → Bool
is_block_list word = list_all (λ item. is_some (range_of item)) (list_items word)

-- the ranges that a word lists
abbrev pub ranges_of : List ℕ → List BlockRange
ranges_of word = filter_map range_of (list_items word)

-- whether a range has a number
abbrev pub has_number : BlockRange → ℕ → Bool
has_number r p = nat_le r.first p && nat_le p r.last

-- marks of eraseblocks by their numbers, with the eraseblocks of ranges marked too
abbrev pub with_ranges : List Bool → List BlockRange → List Bool
with_ranges marks ranges = map (λ e. e.1 || list_any (λ r. has_number r e.0) ranges) (enumerate_from 0 marks)

-- whether a word lists each eraseblock of a device
abbrev pub bad_marks : ℕ → List ℕ → List Bool
bad_marks pebs word = with_ranges (replicate pebs false) (ranges_of word)

-- the range of one eraseblock
abbrev pub one_block : ℕ → BlockRange
one_block n = record { first = n; last = n }

-- whether each eraseblock of a device has one of these numbers; without numbers there are no marks
abbrev pub marks_by_number : ℕ → List ℕ → List Bool
marks_by_number pebs [] = []
marks_by_number pebs numbers = with_ranges (replicate pebs false) (map one_block numbers)

-- bytes of eraseblocks of this size, as they are read: 0xFF if the eraseblock is marked, and as they are if not
abbrev pub masked : ℕ → List Bool → List ℕ → List ℕ
masked size marks bytes = map (λ e. if is_listed marks (e.0 / size) then 0xFF else e.1) (enumerate_from 0 bytes)
