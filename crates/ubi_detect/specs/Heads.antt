-- The erase-counter headers of a file of which nothing else is known, and which of them are of one image.
use Rattle.std.specs.Prelude.{ℕ, ◌+◌, ◌*◌, ◌/◌, ◌==◌, ◌&&◌, ◌||◌, Bool, List, [], ◌∷◌, ◌++◌, None, Option, Some, not, filter, filter_map, fold, if◌then◌else◌, length, map, option_map, slice_index_or, slice_range, unwrap_or}
use Rattle.std.specs.List.{last_or, list_all, list_any, range_with_len}
use Rattle.ubi_media.specs.Ec.{ec_fields, ec_start}
use Rattle.ubi_media.specs.declared.ec.EcStart.{EcStart}
use Rattle.ubi_media.specs.declared.ec.EcStart.TheVariants as start
use Rattle.ubi_detect.specs.declared.heads.Head.{Head}
use Rattle.ubi_detect.specs.declared.heads.Key.{Key}

-- headers are looked for at multiples of this many bytes
abbrev pub step : ℕ
step = 64

-- what 64 bytes that start so name: offsets and an image sequence number, if they are a header
abbrev pub key_by : List ℕ → EcStart → Option Key
key_by front (start.Header o) = Some (record { offsets = o; image_seq = (ec_fields front).image_seq })
key_by front _ = None

-- what 64 bytes name, if they are a header
abbrev pub key_in : List ℕ → Option Key
key_in front = key_by front (ec_start front)

-- what the header at a place names, if one stands there
abbrev pub key_at : List ℕ → ℕ → Option Key
key_at bytes at = key_in (slice_range bytes at (at + 64))

-- the header at the unit u of 64 bytes, if one stands there
abbrev pub head_at : List ℕ → ℕ → Option Head
head_at bytes u = option_map (λ key. record { place = u * step; key = key }) (key_at bytes (u * step))

-- the headers in the first n units
abbrev pub heads_to : List ℕ → ℕ → List Head
heads_to bytes n = filter_map (head_at bytes) (range_with_len 0 n)

-- the headers of a file
abbrev pub heads_of : List ℕ → List Head
heads_of bytes = heads_to bytes (length bytes / step)

-- whether two headers name the same offsets
abbrev pub same_offsets : Key → Key → Bool
same_offsets k l = (k.offsets.vid_offset == l.offsets.vid_offset) && (k.offsets.data_offset == l.offsets.data_offset)

-- whether two headers name the same offsets and the same number
abbrev pub same_key : Key → Key → Bool
same_key k l = same_offsets k l && (k.image_seq == l.image_seq)

-- whether a header that names l belongs to the group of k: it names the same offsets, and the same number or none
abbrev pub is_of : Key → Key → Bool
is_of k l = same_offsets k l && ((l.image_seq == k.image_seq) || (l.image_seq == 0))

-- keys with one more, if it isn't among them
abbrev pub with_key : List Key → Key → List Key
with_key keys k = if list_any (same_key k) keys then keys else keys ++ k ∷ []

-- what the headers name, each once, in the order of the first headers that do
abbrev pub keys_of : List Head → List Key
keys_of heads = fold with_key [] (map (λ h. h.key) heads)

-- how many keys the headers of a file name
abbrev pub key_count : List ℕ → ℕ
key_count bytes = length (keys_of (heads_of bytes))

-- headers may name this many keys: each header is compared with all keys that were named before
abbrev pub most_keys : ℕ
most_keys = 256

-- whether the group of k speaks for an image: it has a number, or no header with its offsets has one
abbrev pub speaks : List Key → Key → Bool
speaks keys k = not (k.image_seq == 0) || list_all (λ l. not (same_offsets k l) || (l.image_seq == 0)) keys

-- where the headers stand that belong to the group of k
abbrev pub places : List Head → Key → List ℕ
places heads k = map (λ h. h.place) (filter (λ h. is_of k h.key) heads)

-- the first of places
abbrev pub first_place : List ℕ → ℕ
first_place ps = slice_index_or ps 0 0

-- the last of places
abbrev pub last_place : List ℕ → ℕ
last_place ps = unwrap_or (last_or None ps) 0
