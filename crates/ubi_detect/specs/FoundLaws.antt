-- Laws of an image that a file shows: what has to stand in the file for this image to be found. All of it can be seen in the bytes.
use Rattle.std.specs.Prelude.{◌≡◌, ◌≢◌, ℕ, ◌+◌, ◌-◌, ◌*◌, ◌%◌, ◌^◌, ◌<◌, ◌≤◌, ◌⊎◌, Contains, IsFalse, IsTrue, List, None, Some, length}
use Rattle.ubi_media.specs.Geometry.{Sizes, slots}
use Rattle.ubi_media.specs.Limits.{first_broken}
use Rattle.ubi_media.specs.Record.{record_size}
use Rattle.ubi_media.specs.Vid.{vid_magic}
use Rattle.ubi_scan.specs.Members.{layout}
use Rattle.ubi_detect.specs.Detected.{AreDetected, IsFound}
use Rattle.ubi_detect.specs.Groups.{greatest_size}
use Rattle.ubi_detect.specs.Heads.{is_of, key_at, step}
use Rattle.ubi_detect.specs.Layout.{data_place, layout_sizes}
use Rattle.ubi_detect.specs.PartLaws.{LiesAt, moved}
use Rattle.ubi_detect.specs.Place.{end_of_image, end_of_last, is_without, start_of_image, told, told_by}
use Rattle.ubi_detect.specs.Sure.{all_are, block_at, is_blank_at, is_seen, number_at}
use Rattle.ubi_detect.specs.declared.groups.Group.{Group}
use Rattle.ubi_detect.specs.declared.heads.Key.{Key}
use Rattle.ubi_detect.specs.declared.way.Way.{Way}

-- the headers of a file are those of one image, whose eraseblocks follow each other
pub record AreHeadersOf (bytes : List ℕ) (g : Group) : Type 0 where
  -- there are two eraseblocks or more
  pub two : 2 ≤ g.count
  -- the first one begins at a multiple of 64
  pub unit : g.first % step ≡ 0
  -- the last one begins count - 1 eraseblocks behind it
  pub last : g.last ≡ block_at g (g.count - 1)
  -- and is all there
  pub whole : end_of_last g ≤ length bytes
  -- each starts with a header that names the offsets of the image, and its image sequence number or none
  pub each : (i : ℕ) → i < g.count → (k : Key) × (key_at bytes (block_at g i) ≡ Some k) × IsTrue (is_of g.key k)
  -- one of these names the number of the image, which is 0 if none names a number
  pub named : (i : ℕ) × (i < g.count) × (key_at bytes (block_at g i) ≡ Some g.key)
  -- no other header stands in the file: none before the image, none behind it, and none in the contents of an eraseblock
  pub only : (u : ℕ) (k : Key) → u * step + step ≤ length bytes → key_at bytes (u * step) ≡ Some k
      → (i : ℕ) × (i < g.count) × (u * step ≡ block_at g i)

-- an eraseblock that begins at a place holds a copy of the volume table, in the LEB of this number of the layout volume
pub record HoldsTable (bytes : List ℕ) (s : Sizes) (at lnum : ℕ) : Type 0 where
  -- the magic of a volume-identifier header stands at the offset of that header
  pub magic : number_at bytes (at + s.vid_offset) ≡ vid_magic
  -- the header names the layout volume
  pub volume : number_at bytes (at + s.vid_offset + 8) ≡ layout
  -- and the LEB
  pub leb : number_at bytes (at + s.vid_offset + 12) ≡ lnum
  -- the last record of the table isn't blank: its first 64 bytes aren't all 0xFF
  pub last : IsFalse (is_blank_at bytes (at + (s.data_offset + record_size * (slots s - 1))))

-- two eraseblocks that follow each other hold the two copies
pub record HoldsTables (bytes : List ℕ) (g : Group) (s : Sizes) : Type 0 where
  -- which eraseblock of the image the first of them is, counted from 0
  pub index : ℕ
  -- the next one is an eraseblock of the image too
  pub inside : index + 1 < g.count
  -- the LEB that the first one holds
  pub lnum : ℕ
  -- and the LEB that the second one holds
  pub other : ℕ
  -- these aren't one LEB
  pub unlike : lnum ≢ other
  -- the first one holds the table in its LEB
  pub first : HoldsTable bytes s (block_at g index) lnum
  -- and the second one in the other
  pub second : HoldsTable bytes s (block_at g (index + 1)) other

-- the way of a page of this size without out-of-band bytes
abbrev pub way_without : Group → ℕ → Way
way_without g page = record { geometry = layout_sizes g.size g.key.offsets page; oob = 0 }

-- a file shows an image of pages of this size without out-of-band bytes
pub record ShowsImage (bytes : List ℕ) (g : Group) (page : ℕ) : Type 0 where
  -- the headers of the file are those of the image
  pub headers : AreHeadersOf bytes g
  -- the eraseblocks, the page and the offsets have sizes that a device may have
  pub sizes : first_broken (layout_sizes g.size g.key.offsets page) ≡ None
  -- the data begin where Linux has them
  pub data_offset : data_place page g.key.offsets.vid_offset ≡ g.key.offsets.data_offset
  -- both copies of the volume table are there, one right after the other
  pub tables : HoldsTables bytes g (layout_sizes g.size g.key.offsets page)
  -- one of the eraseblocks ends with 16 bytes 0xFF
  pub blank : (i : ℕ) × (i < g.count) × IsTrue (all_are 0xFF 16 bytes (block_at g i + (g.size - 16)))
  -- the size of the eraseblocks is a multiple of 128, or no page with out-of-band bytes fits half of it, nor a quarter
  pub seen : IsTrue (is_seen g)
  -- no page with out-of-band bytes fits it, or fewer volume-identifier headers stand where such a page has them than where one without does
  pub without : IsTrue (is_without bytes g)

-- an image that a file shows is the one that is found in it, with its own numbers; and its geometry is among those that are found
abbrev pub ImageIsFound : Type 0
ImageIsFound = (bytes : List ℕ) (g : Group) (page : ℕ) → ShowsImage bytes g page
    → IsFound bytes g × AreDetected bytes (told bytes g)
    × Contains (told bytes g) (told_by (start_of_image g) (end_of_image bytes g) (way_without g page))

-- the last two of these facts hold whatever the file holds, if the size of the eraseblocks is a power of two
abbrev pub PowersOfTwo : Type 0
PowersOfTwo = (bytes : List ℕ) (g : Group) (e : ℕ) → g.size ≡ 2 ^ e → g.size ≤ greatest_size
    → IsTrue (is_seen g) × IsTrue (is_without bytes g)

-- each header of the file lies within the n bytes from a place on
abbrev pub NoHeaderOutside : List ℕ → ℕ → ℕ → Type 0
NoHeaderOutside file at n = (u : ℕ) → u * step + step ≤ length file → (u * step < at) ⊎ (at + n < u * step + step)
    → key_at file (u * step) ≡ None

-- if some bytes show an image, so does a file that has them, with anything before and behind them that holds no header
abbrev pub ShownAmongOthers : Type 0
ShownAmongOthers = (file : List ℕ) (at : ℕ) (part : List ℕ) (g : Group) (page : ℕ) → ShowsImage part g page
    → LiesAt file at part → NoHeaderOutside file at (length part) → ShowsImage file (moved at g) page
