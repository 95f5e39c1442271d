-- Whether the size that a group of headers says is sure, by what stands at the places of its eraseblocks.
use Rattle.std.specs.Prelude.{ℕ, ◌+◌, ◌-◌, ◌*◌, ◌/◌, ◌%◌, ◌==◌, ◌&&◌, ◌||◌, Bool, List, Option, None, Some, count_by, false, if◌then◌else◌, length, min, nat_le, nat_lt, not, slice_range}
use Rattle.std.specs.List.{list_all, list_any, range_with_len}
use Rattle.ubi_media.specs.Fields.{field}
use Rattle.ubi_media.specs.Geometry.{slots}
use Rattle.ubi_media.specs.Record.{record_size}
use Rattle.ubi_media.specs.Vid.{vid_magic}
use Rattle.ubi_media.specs.declared.ec.EcOffsets.{EcOffsets}
use Rattle.ubi_detect.specs.Heads.{is_of, key_at, step}
use Rattle.ubi_scan.specs.Members.{layout}
use Rattle.ubi_detect.specs.Ways.{has_no_way, plain_ways, put, ways}
use Rattle.ubi_detect.specs.declared.groups.Group.{Group}
use Rattle.ubi_detect.specs.declared.heads.Key.{Key}
use Rattle.ubi_detect.specs.declared.way.Way.{Way}

-- whether the n bytes at a place are there, and all b
abbrev pub all_are : ℕ → ℕ → List ℕ → ℕ → Bool
all_are b n bytes at = nat_le (at + n) (length bytes) && list_all (λ x. x == b) (slice_range bytes at (at + n))

-- whether 64 bytes 0xFF stand at a place: an eraseblock that begins there is blank
abbrev pub is_blank_at : List ℕ → ℕ → Bool
is_blank_at = all_are 0xFF 64

-- whether something stands at a place: 64 bytes that are neither all 0xFF nor all zero, as those of a bad eraseblock may be
abbrev pub is_filled : List ℕ → ℕ → Bool
is_filled bytes at = not (all_are 0xFF 64 bytes at || all_are 0 64 bytes at)

-- the number in the four bytes at a place; 0 if they aren't there
abbrev pub number_at : List ℕ → ℕ → ℕ
number_at bytes at = if nat_le (at + 4) (length bytes) then field 4 at bytes else 0

-- how many eraseblocks there are from the first header of a group to the last one
abbrev pub blocks : Group → ℕ
blocks g = (g.last - g.first) / g.size + 1

-- where the eraseblock i of these begins
abbrev pub block_at : Group → ℕ → ℕ
block_at g i = g.first + i * g.size

-- whether there is a key, and it is one of the group of k
abbrev pub is_member : Key → Option Key → Bool
is_member k None = false
is_member k (Some l) = is_of k l

-- whether an eraseblock starts with a header of the group
abbrev pub is_start : List ℕ → Group → ℕ → Bool
is_start bytes g p = nat_le (p + 64) (length bytes) && is_member g.key (key_at bytes p)

-- whether one of the eraseblocks does, and passes a test
abbrev pub some_start : List ℕ → Group → (ℕ → Bool) → Bool
some_start bytes g test = list_any (λ i. is_start bytes g (block_at g i) && test (block_at g i)) (range_with_len 0 (blocks g))

-- how many of the eraseblocks do, and pass a test
abbrev pub count_starts : List ℕ → Group → (ℕ → Bool) → ℕ
count_starts bytes g test = count_by (λ i. is_start bytes g (block_at g i) && test (block_at g i)) (range_with_len 0 (blocks g))

-- whether q bytes have room for data after the headers
abbrev pub has_room : EcOffsets → ℕ → Bool
has_room o q = nat_le (o.data_offset + 64) q

-- whether more than half of the eraseblocks start with a header of the group
abbrev pub is_dense : Group → Bool
is_dense g = nat_lt (blocks g) (2 * g.count)

-- whether the eraseblock at a place has an even number, counted from that of the first header
abbrev pub is_even : Group → ℕ → Bool
is_even g p = (p - g.first) / g.size % 2 == 0

-- whether the eraseblocks may be halves of the true ones, if so many of those with even numbers start with a header: fewer than a
-- quarter of each second one do, from the first on or from the next
abbrev pub may_be_halves : Group → ℕ → Bool
may_be_halves g even = nat_lt (4 * even) ((blocks g + 1) / 2) || nat_lt (4 * (g.count - even)) (blocks g / 2)

-- whether they are no halves: all start with a header, or enough of those with even numbers and of those with odd ones do
abbrev pub are_no_halves : List ℕ → Group → Bool
are_no_halves bytes g = (g.count == blocks g) || not (may_be_halves g (count_starts bytes g (is_even g)))

-- whether headers of eraseblocks of half or a quarter of this size would all be seen: they stand at multiples of 64, or no page with
-- out-of-band bytes fits them
abbrev pub is_seen : Group → Bool
is_seen g = (g.size % (2 * step) == 0) || (has_no_way (g.size / 2) g.key.offsets && has_no_way (g.size / 4) g.key.offsets)

-- whether an eraseblock ends with 16 bytes 0xFF, as those of the volume table do, except for b out-of-band bytes of its last page
abbrev pub ends_blank : List ℕ → Group → ℕ → ℕ → Bool
ends_blank bytes g b p = all_are 0xFF 16 bytes (p + g.size - (b + 16))

-- whether an eraseblock that starts with a header ends so in one of some ways
abbrev pub end_in : List ℕ → Group → List Way → Bool
end_in bytes g ws = list_any (λ w. some_start bytes g (ends_blank bytes g w.oob)) ws

-- whether an eraseblock ends so without out-of-band bytes, or with those that its pages may have
abbrev pub some_ends_blank : List ℕ → Group → Bool
some_ends_blank bytes g = some_start bytes g (ends_blank bytes g 0) || end_in bytes g (ways g.size g.key.offsets)

-- whether an eraseblock holds a copy of the volume table: its volume-identifier header says so, and the place of the table's last
-- record isn't blank
abbrev pub holds_table : List ℕ → Way → ℕ → Bool
holds_table bytes w p =
    let v = p + put w w.geometry.vid_offset in
    (number_at bytes v == vid_magic) && (number_at bytes (v + 8) == layout)
    && not (is_blank_at bytes (p + put w (w.geometry.data_offset + record_size * (slots w.geometry - 1))))

-- which copy an eraseblock holds, by the same header
abbrev pub copy_at : List ℕ → Way → ℕ → ℕ
copy_at bytes w p = number_at bytes (p + (put w w.geometry.vid_offset + 12))

-- whether two eraseblocks hold the two copies
abbrev pub have_copies : List ℕ → Way → ℕ → ℕ → Bool
have_copies bytes w p next =
    holds_table bytes w p && holds_table bytes w next && not (copy_at bytes w p == copy_at bytes w next)

-- whether an eraseblock and the next one, which starts with a header too, hold the two copies
abbrev pub meets : List ℕ → Group → Way → ℕ → Bool
meets bytes g w p =
    nat_le (p + g.size) g.last && is_start bytes g (p + g.size) && have_copies bytes w p (p + g.size)

-- whether two consecutive eraseblocks do, in one of some ways
abbrev pub meet_in : List ℕ → Group → List Way → Bool
meet_in bytes g ws = list_any (λ w. some_start bytes g (meets bytes g w)) ws

-- whether two consecutive eraseblocks do, without out-of-band bytes or with them
abbrev pub tables_meet : List ℕ → Group → Bool
tables_meet bytes g = meet_in bytes g (plain_ways g.size g.key.offsets) || meet_in bytes g (ways g.size g.key.offsets)

-- whether only 1 and n divide n
abbrev pub is_prime : ℕ → Bool
is_prime n = list_all (λ e. not (n % (e + 2) == 0)) (range_with_len 0 (n - 2))

-- whether eraseblocks of q bytes may be d of the true ones each: d is a prime, and a part has whole units, and room
abbrev pub may_be_parts : EcOffsets → ℕ → ℕ → Bool
may_be_parts o q d = (q % (d * step) == 0) && has_room o (q / d) && is_prime d

-- whether a test holds where a part of an eraseblock of q bytes would begin, if it had d parts, except the first one
abbrev pub some_part : ℕ → ℕ → (ℕ → Bool) → ℕ → Bool
some_part q d test p = list_any (λ j. test (p + (j + 1) * (q / d))) (range_with_len 0 (d - 1))

-- the same for an eraseblock before that of the last header
abbrev pub some_inner : ℕ → ℕ → ℕ → (ℕ → Bool) → ℕ → Bool
some_inner last q d test p = nat_lt p last && some_part q d test p

-- how many bytes are looked at where a part of this size begins: more than a record of the volume table has, whose CRC isn't zero; or
-- all of a shorter part
abbrev pub looked_at : ℕ → ℕ
looked_at part = min part 192

-- whether what an eraseblock holds goes on at a place: n bytes there are neither all 0xFF nor all zero, and they don't follow 16 bytes
-- 0xFF
abbrev pub goes_on : ℕ → List ℕ → ℕ → Bool
goes_on n bytes at = not (all_are 0xFF n bytes at || all_are 0 n bytes at) && not (all_are 0xFF 16 bytes (at - 16))

-- whether something stands there after 16 bytes 0xFF, as nothing does in an eraseblock that is written from its beginning on
abbrev pub is_hole : List ℕ → ℕ → Bool
is_hole bytes at = is_filled bytes at && all_are 0xFF 16 bytes (at - 16)

-- whether the eraseblocks can't be d of the true ones each: before the last header, what one holds goes on where a part would
-- begin, and nothing stands at such a place after blank bytes
abbrev pub are_no_parts : List ℕ → Group → ℕ → Bool
are_no_parts bytes g d =
    some_start bytes g (some_inner g.last g.size d (goes_on (looked_at (g.size / d)) bytes))
    && not (some_start bytes g (some_inner g.last g.size d (is_hole bytes)))

-- whether the eraseblocks can't be any number of the true ones
abbrev pub is_whole_size : List ℕ → Group → Bool
is_whole_size bytes g =
    list_all (λ i. not (may_be_parts g.key.offsets g.size (i + 2)) || are_no_parts bytes g (i + 2)) (range_with_len 0 (g.size / step))

-- whether what stands in the eraseblocks says their size: one of those that start with a header ends blank; and two neighbours hold
-- the two copies of the volume table, or there are three headers, and no part could be the size
abbrev pub says_so : List ℕ → Group → Bool
says_so bytes g = some_ends_blank bytes g && (tables_meet bytes g || (nat_le 3 g.count && is_whole_size bytes g))

-- whether a group may be that of eraseblocks of its size: there is room, more than half of them start with a header, and no other header
-- of theirs could be unseen
abbrev pub may_be_size : Group → Bool
may_be_size g = has_room g.key.offsets g.size && is_dense g && is_seen g

-- whether the eraseblocks bear the size out: they are no halves, and what stands in them says it
abbrev pub is_borne_out : List ℕ → Group → Bool
is_borne_out bytes g = are_no_halves bytes g && says_so bytes g

-- whether the size of a group is sure: it may be one, and the eraseblocks bear it out
abbrev pub is_sure : List ℕ → Group → Bool
is_sure bytes g = may_be_size g && is_borne_out bytes g

-- whether a header of the group stands where one of d parts of an eraseblock would begin, if it may have so many
abbrev pub has_part_start : List ℕ → Group → ℕ → Bool
has_part_start bytes g d = may_be_parts g.key.offsets g.size d && some_start bytes g (some_part g.size d (is_start bytes g))

-- whether a header of the group stands where a part of an eraseblock could begin
abbrev pub has_inner_start : List ℕ → Group → Bool
has_inner_start bytes g = list_any (λ i. has_part_start bytes g (i + 2)) (range_with_len 0 (g.size / step))
