-- The contents of a static volume, piece by piece.
use Rattle.std.specs.Prelude.{◌≡◌, ◌≢◌, ℕ, ◌<◌, ◌≤◌, ◌⊎◌, List, None, Option, MatchOption, Some, flat_map, length, slice_index}
use Rattle.std.specs.Option.{option_map_or}
use Rattle.ubi_media.specs.Check.{crc_of}
use Rattle.ubi_media.specs.Geometry.{Sizes}
use Rattle.ubi_media.specs.declared.record.VolumeRecord.{VolumeRecord}
use Rattle.ubi_scan.specs.Image.{block}
use Rattle.ubi_scan.specs.Members.{NoMember, Wins, member}
use Rattle.ubi_volume.specs.Means.{IsPiece, StaticReads, piece}

-- how many LEBs its volume uses, by the header of the eraseblock p; 0 if p has none
abbrev pub used_in : Sizes → List (List ℕ) → ℕ → ℕ
used_in s bs p = option_map_or (λ h. h.used_ebs) (member s (block bs p)) 0

-- how many LEBs a static volume uses, by one of its winners; 0 if it has none
abbrev pub UsedIs : Sizes → List (List ℕ) → ℕ → ℕ → Type 0
UsedIs s bs vol used =
    (((lnum : ℕ) → NoMember s bs (vol, lnum)) × (used ≡ 0))
    ⊎ ((lnum p : ℕ) × Wins s bs (vol, lnum) p × (used_in s bs p ≡ used))

-- the piece that the winner of a LEB holds of contents of `used` LEBs, if it holds one
abbrev pub PieceIs : Sizes → List (List ℕ) → ℕ → ℕ → ℕ → Option (List ℕ) → Type 0
PieceIs s bs vol used lnum held = MatchOption held
    ((p : ℕ) → Wins s bs (vol, lnum) p → IsPiece s bs used p → ⊥)
    (λ text. (p : ℕ) × Wins s bs (vol, lnum) p × IsPiece s bs used p × (text ≡ piece s bs p))

-- the data of a piece, unchecked, and the CRC that its header names: if the data have that CRC, they are the piece, and if not,
-- there is none; or no data, if there is no piece
abbrev pub RawIs : Sizes → List (List ℕ) → ℕ → ℕ → ℕ → Option (List ℕ × ℕ) → Type 0
RawIs s bs vol used lnum None = PieceIs s bs vol used lnum None
RawIs s bs vol used lnum (Some (text, crc)) =
    (crc_of text ≡ crc → PieceIs s bs vol used lnum (Some text)) × (crc_of text ≢ crc → PieceIs s bs vol used lnum None)

-- the contents in the first n pieces
pub record AreRead (s : Sizes) (bs : List (List ℕ)) (vol used n : ℕ) (text : List ℕ) : Type 0 where
  pub ps : List ℕ
  pub count : length ps ≡ n
  pub win : (lnum : ℕ) → lnum < n → Wins s bs (vol, lnum) (slice_index ps lnum)
  pub pieces : (lnum : ℕ) → lnum < n → IsPiece s bs used (slice_index ps lnum)
  pub joined : text ≡ flat_map (piece s bs) ps

-- the size of the contents in the first n pieces
abbrev pub SizeIsRead : Sizes → List (List ℕ) → ℕ → ℕ → ℕ → ℕ → Type 0
SizeIsRead s bs vol used n size = (text : List ℕ) × AreRead s bs vol used n text × (size ≡ length text)

-- how many LEBs hold a static volume's contents, which are whole if all their pieces are there; or none, if they aren't whole
abbrev pub TextLebs : Sizes → List (List ℕ) → ℕ → VolumeRecord → Option ℕ → Type 0
TextLebs s bs vol r None = (text : List ℕ) → StaticReads s bs vol r text → ⊥
TextLebs s bs vol r (Some used) =
    UsedIs s bs vol used × (used ≤ r.reserved) × ((lnum : ℕ) → used ≤ lnum → NoMember s bs (vol, lnum))
