-- Volumes whose bytes lie in a source.
use Rattle.std.specs.Prelude.{ℕ, ◌+◌, ◌*◌, ◌≤◌, ◌&&◌, Bool, List, All, drop, is_none, length, map, nat_lt, take}
use Rattle.std.specs.FinMap.{FinMap, from_entries}
use Rattle.std.specs.List.{range_with_len}
use Rattle.std.specs.Ordering.{nat_cmp}
use Rattle.ubi_media.specs.Fields.{filled}
use Rattle.ubi_media.specs.Geometry.{Sizes}
use Rattle.ubi_media.specs.Record.{rec_fault, usable}
use Rattle.ubi_media.specs.declared.vid.VolKind.{VolKind}
use Rattle.ubi_media.specs.declared.vid.VolKind.TheVariants as kind
use Rattle.ubi_volume.specs.Made.{Items}
use Rattle.ubi_volume.specs.Meant.{pieces, share}
use Rattle.ubi_volume.specs.declared.content.Content.{Content}
use Rattle.ubi_volume.specs.declared.content.Content.TheVariants as content
use Rattle.ubi_volume.specs.declared.content.Volume.{Volume}
use Rattle.ubi_laid.specs.declared.part.Part.{Part}

-- the bytes of a part in those of the source
abbrev pub text_of : List ℕ → Part → List ℕ
text_of bytes p = take p.len (drop p.start bytes)

-- the LEBs of bytes that are cut into pieces of a size: each holds its piece, and 0xFF after it
abbrev pub lebs_of : ℕ → List ℕ → FinMap nat_cmp (List ℕ)
lebs_of size text =
    from_entries (map (λ lnum. (lnum, filled size (share size text lnum)))
    (range_with_len 0 (pieces size (length text))))

-- what a volume holds after bytes were written to it: a static one these bytes, a dynamic one their LEBs
abbrev pub content_of : VolKind → ℕ → List ℕ → Content
content_of kind.Static size text = content.Static text
content_of kind.Dynamic size text = content.Dynamic (lebs_of size text)

-- the volume of a part, after its number
abbrev pub item_of : Sizes → List ℕ → Part → ℕ × Volume
item_of s bytes p =
    (p.id, record { entry = p.entry; content = content_of p.entry.kind (usable s p.entry) (text_of bytes p) })

-- the volumes of parts
abbrev pub items_of : Sizes → List ℕ → List Part → Items
items_of s bytes parts = map (item_of s bytes) parts

-- a source of this size has the bytes of each part
abbrev pub Reaches : ℕ → List Part → Type 0
Reaches size parts = All (λ p. p.start + p.len ≤ size) parts

-- how many pieces the bytes of a part have
abbrev pub pieces_of : Sizes → Part → ℕ
pieces_of s p = pieces (usable s p.entry) p.len

-- a part has more bytes than its volume holds; nothing is said if its record breaks a rule
abbrev pub is_long_part : Sizes → Part → Bool
is_long_part s p = is_none (rec_fault s p.entry) && nat_lt (p.entry.reserved * usable s p.entry) p.len
