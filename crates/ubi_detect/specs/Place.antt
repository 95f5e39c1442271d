-- Where an image lies in a file, and the geometries that its headers give, with out-of-band bytes or without.
use Rattle.std.specs.Prelude.{ℕ, ◌+◌, ◌-◌, ◌%◌, ◌==◌, ◌&&◌, ◌||◌, Bool, List, filter, fold, if◌then◌else◌, length, map, max, nat_lt}
use Rattle.ubi_media.specs.Vid.{vid_magic}
use Rattle.ubi_detect.specs.Sure.{count_starts, number_at, some_start}
use Rattle.ubi_detect.specs.Ways.{has_no_way, plain_ways, put, ways}
use Rattle.ubi_detect.specs.declared.detect.Detected.{Detected}
use Rattle.ubi_detect.specs.declared.groups.Group.{Group}
use Rattle.ubi_detect.specs.declared.way.Way.{Way}

-- where the eraseblock of the last header ends
abbrev pub end_of_last : Group → ℕ
end_of_last g = g.last + g.size

-- where the first whole eraseblock of the file begins, on the grid of the headers
abbrev pub start_of_image : Group → ℕ
start_of_image g = g.first % g.size

-- where the last whole eraseblock of the file ends, on that grid
abbrev pub end_of_image : List ℕ → Group → ℕ
end_of_image bytes g = length bytes - (length bytes - start_of_image g) % g.size

-- whether the magic of a volume-identifier header stands in its place in an eraseblock at this place
abbrev pub has_vid : List ℕ → Way → ℕ → Bool
has_vid bytes w p = number_at bytes (p + put w w.geometry.vid_offset) == vid_magic

-- in how many eraseblocks that start with a header of a group the magic stands there
abbrev pub votes : List ℕ → Group → Way → ℕ
votes bytes g w = count_starts bytes g (has_vid bytes w)

-- the most votes that one of some ways has
abbrev pub top_vote : List ℕ → Group → List Way → ℕ
top_vote bytes g ws = fold max 0 (map (votes bytes g) ws)

-- the ways of an image with out-of-band bytes
abbrev pub ways_with : Group → List Way
ways_with g = ways g.size g.key.offsets

-- the ways of an image without out-of-band bytes
abbrev pub ways_without : Group → List Way
ways_without g = plain_ways g.size g.key.offsets

-- whether the pages have no out-of-band bytes: the size isn't one with them, or more volume-identifier headers say so
abbrev pub is_without : List ℕ → Group → Bool
is_without bytes g = has_no_way g.size g.key.offsets || nat_lt (top_vote bytes g (ways_with g)) (top_vote bytes g (ways_without g))

-- whether a way without out-of-band bytes has a vote
abbrev pub has_vote : List ℕ → Group → Way → Bool
has_vote bytes g w = some_start bytes g (has_vid bytes w)

-- whether a way with out-of-band bytes has the most votes, and at least one
abbrev pub is_voted : List ℕ → Group → Way → Bool
is_voted bytes g w = nat_lt 0 (votes bytes g w) && (votes bytes g w == top_vote bytes g (ways_with g))

-- the ways that are found, the least page first: those without out-of-band bytes that have a vote, or those with out-of-band bytes
-- that have the most votes
abbrev pub told_ways : List ℕ → Group → List Way
told_ways bytes g =
    if is_without bytes g then filter (has_vote bytes g) (ways_without g) else filter (is_voted bytes g) (ways_with g)

-- whether there is no way at all
abbrev pub has_no_page : Group → Bool
has_no_page g = (length (ways_without g) == 0) && (length (ways_with g) == 0)

-- what is found for a way of an image that lies from one place to another
abbrev pub told_by : ℕ → ℕ → Way → Detected
told_by start end w = record { geometry = w.geometry; oob = w.oob; start = start; length = end - start }

-- what is found for an image: it is all whole eraseblocks of the file on the grid of its headers
abbrev pub told : List ℕ → Group → List Detected
told bytes g = map (told_by (start_of_image g) (end_of_image bytes g)) (told_ways bytes g)
