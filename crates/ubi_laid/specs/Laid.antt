-- The eraseblocks in which volumes are laid out: one for each LEB that is kept, with its header and its text.
use Rattle.std.specs.Prelude.{◌≡◌, ◌≢◌, ℕ, ◌+◌, ◌≤◌, List, [], ◌∷◌, false, true, None, flat_map, length, map}
use Rattle.std.specs.FinMap.{entries}
use Rattle.std.specs.List.{AllByRecursion, range_with_len}
use Rattle.ubi_media.specs.Check.{crc_of}
use Rattle.ubi_media.specs.Geometry.{Sizes}
use Rattle.ubi_media.specs.Record.{usable, data_pad}
use Rattle.ubi_media.specs.Vid.{plain, vid_fault}
use Rattle.ubi_media.specs.Widths.{VidFits}
use Rattle.ubi_media.specs.declared.record.VolumeRecord.{VolumeRecord}
use Rattle.ubi_media.specs.declared.vid.VidHeader.{VidHeader}
use Rattle.ubi_media.specs.declared.vid.VolKind.TheVariants as kind
use Rattle.ubi_scan.specs.Faults.{IsMislaid}
use Rattle.ubi_scan.specs.Members.{has_members, leb_of}
use Rattle.ubi_volume.specs.Meant.{pieces, share}
use Rattle.ubi_volume.specs.declared.content.Content.{Content}
use Rattle.ubi_volume.specs.declared.content.Content.TheVariants as content
use Rattle.ubi_volume.specs.declared.content.Volume.{Volume}

-- an eraseblock: its volume-identifier header, and the first bytes of its LEB
pub record Laid : Type 0 where
  pub header : VidHeader
  pub text : List ℕ

-- a LEB of a dynamic volume, with its padding
abbrev pub dynamic_block : ℕ → ℕ → ℕ × List ℕ → Laid
dynamic_block pad vol leb = record { header = plain kind.Dynamic 0 pad vol leb.0; text = leb.1 }

-- the header of a LEB of a static volume that uses a number of them, by the size of its data and their CRC
abbrev pub piece_header : VidHeader → ℕ → ℕ → ℕ → VidHeader
piece_header leb used size crc = record leb { data_size = size; used_ebs = used; data_crc = crc }

-- a LEB of a static volume, with its header and data
abbrev pub static_block : ℕ → ℕ → ℕ → ℕ → List ℕ → Laid
static_block pad vol used lnum text = record {
  header = piece_header (plain kind.Static 0 pad vol lnum) used (length text) (crc_of text);
  text = text;
}

-- the one eraseblock of a damaged volume: the CRC isn't that of its one byte
abbrev pub damaged_block : ℕ → ℕ → Laid
damaged_block pad vol = record { header = record (plain kind.Static 0 pad vol 0) { data_size = 1; used_ebs = 1 }; text = [] }

-- a LEB of a static volume's contents, which are cut into pieces of a size
abbrev pub static_part : ℕ → ℕ → ℕ → List ℕ → ℕ → Laid
static_part pad size vol text lnum = static_block pad vol (pieces size (length text)) lnum (share size text lnum)

-- the eraseblocks of a static volume's contents, in ascending order of LEBs
abbrev pub static_blocks : ℕ → ℕ → ℕ → List ℕ → List Laid
static_blocks pad size vol text = map (static_part pad size vol text) (range_with_len 0 (pieces size (length text)))

-- the eraseblocks of a volume; there are none if its update didn't end
abbrev pub volume_blocks : Sizes → ℕ → VolumeRecord → Content → List Laid
volume_blocks s vol r content.Updating = []
volume_blocks s vol r content.Damaged = damaged_block (data_pad s r) vol ∷ []
volume_blocks s vol r (content.Static text) = static_blocks (data_pad s r) (usable s r) vol text
volume_blocks s vol r (content.Dynamic lebs) = map (dynamic_block (data_pad s r) vol) (entries lebs)

-- the eraseblocks of volumes, in their order
abbrev pub laid_blocks : Sizes → List (ℕ × Volume) → List Laid
laid_blocks s volumes = flat_map (λ v. volume_blocks s v.0 v.1.entry v.1.content) volumes

-- an eraseblock that can be laid out, and is then a good member of its LEB with the sequence number 0: its text has room, its
-- header breaks no rule, and it isn't one of a copy
pub record CanBeLaid (s : Sizes) (l : Laid) : Type 0 where
  pub room : s.data_offset + length l.text ≤ s.peb_size
  pub fits : VidFits l.header
  pub sound : vid_fault s l.header ≡ None
  pub known : has_members l.header.vol_id ≡ true
  pub placed : IsMislaid l.header → ⊥
  pub number : l.header.sqnum ≡ 0
  pub original : l.header.copy_flag ≡ false

-- two eraseblocks are of different LEBs
abbrev pub Differ : Laid → Laid → Type 0
Differ k l = leb_of l.header ≢ leb_of k.header

-- any two of a list are
abbrev pub AreApart : List Laid → Type 0
AreApart [] = Unit {0}
AreApart (l ∷ ls) = AllByRecursion (Differ l) ls × AreApart ls
