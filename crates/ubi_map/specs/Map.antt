-- The eraseblocks of an image one by one, as JSON.
use Rattle.std.specs.Prelude.{ℕ, List, codes, length, map}
use Rattle.std.specs.FinMap.{entries}
use Rattle.std.specs.List.{range_with_len}
use Rattle.serde_json.specs.Data.{Data, array, member, no_members, object, string}
use Rattle.serde_json.specs.View.{items_of}
use Rattle.ubi_media.specs.Geometry.{Sizes}
use Rattle.ubi_media.specs.declared.refusal.Refusal.{Refusal}
use Rattle.ubi_scan.specs.Image.{block}
use Rattle.ubi_volume.specs.Meant.{Meant}
use Rattle.ubi_volume.specs.Survey.{Seen}
use Rattle.ubi_json.specs.Check.{check_data}
use Rattle.ubi_json.specs.Line.{worded}
use Rattle.ubi_json.specs.List.{listed_data, listed_volume, sizes_data}
use Rattle.ubi_json.specs.Told.{refusal_data}
use Rattle.ubi_json.specs.declared.list.ListedVolume.{ListedVolume}
use Rattle.ubi_map.specs.Headers.{block_lines}
use Rattle.ubi_map.specs.Letters.{header_letters, state_letters}

-- the first n eraseblocks, each as the lines of its headers
abbrev pub block_texts : Sizes → List (List ℕ) → ℕ → List (List ℕ)
block_texts s bs n = map (λ p. block_lines s (block bs p)) (range_with_len 0 n)

-- texts, each as a string
abbrev pub texts_data : List (List ℕ) → Data
texts_data texts = array (items_of (map string texts))

-- an image that is accepted: its eraseblocks, what `check` and `list` print for it, and a letter for the state of each eraseblock
abbrev pub accepted_data : Data → Data → Data → List ℕ → Data
accepted_data blocks check list letters =
    object
    (member (codes "blocks") blocks
    (member (codes "check") check (member (codes "list") list (worded (codes "states") letters no_members))))

-- an image that is refused: its eraseblocks, the sizes of the device, the cause, and a letter for each eraseblock
abbrev pub unaccepted_data : Data → Data → Data → Data → Data
unaccepted_data blocks sizes cause letters =
    object
    (member (codes "blocks") blocks
    (member (codes "geometry") sizes (member (codes "refusal") cause (member (codes "states") letters no_members))))

-- the data of an image that is surveyed, with its volumes as they are listed
abbrev pub surveyed_data : Sizes → List (List ℕ) → Seen → List ListedVolume → Data
surveyed_data s texts a volumes = accepted_data (texts_data texts) (check_data a) (listed_data s volumes) (state_letters a.states)

-- the data of an image with a meaning
abbrev pub map_data : List (List ℕ) → Seen → Meant → Data
map_data bs a m = surveyed_data m.sizes (block_texts m.sizes bs (length bs)) a (map listed_volume (entries m.volumes))

-- the data of an image that is refused
abbrev pub refused_page_data : Sizes → List (List ℕ) → List ℕ → Refusal → Data
refused_page_data s texts letters c = unaccepted_data (texts_data texts) (sizes_data s) (refusal_data c) (string letters)

-- the data of an image that is refused, with letters for its eraseblocks by their headers alone
abbrev pub refused_map_data : Sizes → List (List ℕ) → Refusal → Data
refused_map_data s bs c = refused_page_data s (block_texts s bs (length bs)) (header_letters s bs (length bs)) c
