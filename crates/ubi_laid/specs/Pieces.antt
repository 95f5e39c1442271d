-- The pieces of volumes: the logical eraseblocks that are laid out, by where their bytes lie in a source.
use Rattle.std.specs.Prelude.{◌≡◌, ℕ, ◌+◌, ◌*◌, ◌/◌, ◌<◌, ◌≤◌, ◌-◌, Bool, false, if◌then◌else◌, List, [], ◌∷◌, drop, flat_map, slice_range, take}
use Rattle.ubi_media.specs.Check.{crc_of}
use Rattle.std.specs.List.{range_with_len}
use Rattle.ubi_media.specs.Fields.{filled, is_blank}
use Rattle.ubi_media.specs.Geometry.{Sizes, leb_size}
use Rattle.ubi_media.specs.Record.{data_pad, usable}
use Rattle.ubi_media.specs.Vid.{plain}
use Rattle.ubi_media.specs.declared.vid.VidHeader.{VidHeader}
use Rattle.ubi_media.specs.declared.vid.VidRead.{VidRead}
use Rattle.ubi_media.specs.declared.vid.VidRead.TheVariants as vid_read
use Rattle.ubi_media.specs.declared.vid.VolKind.{VolKind}
use Rattle.ubi_media.specs.declared.vid.VolKind.TheVariants as kind
use Rattle.ubi_scan.specs.Image.{block, leb, vid}
use Rattle.ubi_scan.specs.Source.{blocks_of}
use Rattle.ubi_volume.specs.Extract.{share_len}
use Rattle.ubi_laid.specs.Laid.{Laid, piece_header}
use Rattle.ubi_laid.specs.Parts.{pieces_of}
use Rattle.ubi_laid.specs.declared.part.Part.{Part}
use Rattle.ubi_laid.specs.declared.pieces.Origin.{Origin}
use Rattle.ubi_laid.specs.declared.pieces.Origin.TheVariants as origin
use Rattle.ubi_laid.specs.declared.pieces.Piece.{Piece}

-- the CRC that the volume-identifier header of an eraseblock gives, 0 if it isn't Valid
abbrev pub given_check : VidRead → ℕ
given_check (vid_read.Valid h) = h.data_crc
given_check _ = 0

-- the bytes of a piece, by those of the source
abbrev pub piece_text : Sizes → Origin → ℕ → List ℕ → List ℕ
piece_text s origin.Nowhere len bytes = []
piece_text s (origin.Block p) len bytes = take len (leb s (block (blocks_of s bytes) p))
piece_text s (origin.Bytes start) len bytes = slice_range bytes start (start + len)

-- the CRC in the header of a piece of a static volume
abbrev pub piece_check : Sizes → Origin → ℕ → List ℕ → ℕ
piece_check s origin.Nowhere len bytes = 0
piece_check s (origin.Block p) len bytes = given_check (vid s (block (blocks_of s bytes) p))
piece_check s (origin.Bytes start) len bytes = crc_of (piece_text s (origin.Bytes start) len bytes)

-- the header of a piece, with its CRC
abbrev pub checked_header : VolKind → Sizes → VidHeader → Origin → ℕ → List ℕ → VidHeader
checked_header kind.Static s h o len bytes = record h { data_crc = piece_check s o len bytes }
checked_header kind.Dynamic s h o len bytes = h

-- whether a piece is left out: one of a dynamic volume is, if its bytes are 0xFF throughout
abbrev pub is_left_out : VolKind → List ℕ → Bool
is_left_out kind.Static text = false
is_left_out kind.Dynamic text = is_blank text

-- what a buffer holds after the bytes of a piece were read
abbrev pub IsInBuffer : Sizes → Origin → ℕ → List ℕ → List ℕ → Type 0
IsInBuffer s origin.Nowhere len buffer bytes = len ≡ 0
IsInBuffer s (origin.Block p) len buffer bytes = buffer ≡ block (blocks_of s bytes) p
IsInBuffer s (origin.Bytes start) len buffer bytes =
    take len (drop s.data_offset buffer) ≡ slice_range bytes start (start + len)

-- the bytes of a piece lie in a source of this size
abbrev pub IsReadable : Sizes → ℕ → Origin → ℕ → Type 0
IsReadable s size origin.Nowhere len = len ≡ 0
IsReadable s size (origin.Block p) len = p < size / s.peb_size
IsReadable s size (origin.Bytes start) len = start + len ≤ size

-- the bytes of a piece lie in a source of this size, and fit a logical eraseblock
pub record LiesIn (s : Sizes) (size : ℕ) (q : Piece) : Type 0 where
  pub fits : q.len ≤ leb_size s
  pub within : IsReadable s size q.origin q.len

-- the number that is given if a piece can't be read: of its eraseblock of the source, or of the volume
abbrev pub number_of : Origin → VidHeader → ℕ
number_of (origin.Block p) h = p
number_of _ h = h.vol_id

-- a failed read began at a place, and was one of a piece with a number
abbrev pub IsReadOf : Sizes → Origin → VidHeader → ℕ → ℕ → Type 0
IsReadOf s origin.Nowhere h at number = ⊥
IsReadOf s (origin.Block p) h at number = (number ≡ p) × (at ≡ p * s.peb_size)
IsReadOf s (origin.Bytes start) h at number = (number ≡ h.vol_id) × (at ≡ start)

-- the header of a piece of a part, without its CRC, by the kind of the volume
abbrev pub part_header : VolKind → Sizes → Part → ℕ → ℕ → VidHeader
part_header kind.Static s p lnum len = piece_header (plain kind.Static 0 (data_pad s p.entry) p.id lnum) (pieces_of s p) len 0
part_header kind.Dynamic s p lnum len = plain kind.Dynamic 0 (data_pad s p.entry) p.id lnum

-- a piece of a part, by the kind of the volume
abbrev pub piece_of_kind : VolKind → Sizes → Part → ℕ → Piece
piece_of_kind k s p lnum = record {
  header = part_header k s p lnum (share_len (usable s p.entry) p.len lnum);
  origin = origin.Bytes (p.start + lnum * usable s p.entry);
  len = share_len (usable s p.entry) p.len lnum;
}

-- a piece of a part, by the part alone
abbrev pub built_piece : Sizes → Part → ℕ → Piece
built_piece s p = piece_of_kind p.entry.kind s p

-- the text of an eraseblock that is laid out: with 0xFF up to what the volume uses of a LEB, if the volume is dynamic
abbrev pub laid_text : VolKind → Sizes → VidHeader → List ℕ → List ℕ
laid_text kind.Static s h text = text
laid_text kind.Dynamic s h text = filled (leb_size s - h.data_pad) text

-- the eraseblock of a piece
abbrev pub laid_piece : Sizes → List ℕ → Piece → Laid
laid_piece s bytes q = record {
  header = checked_header q.header.kind s q.header q.origin q.len bytes;
  text = laid_text q.header.kind s q.header (piece_text s q.origin q.len bytes);
}

-- a piece, if it isn't left out
abbrev pub kept_piece : Sizes → List ℕ → Piece → List Piece
kept_piece s bytes q = if is_left_out q.header.kind (piece_text s q.origin q.len bytes) then [] else q ∷ []

-- the pieces of a part that aren't left out
abbrev pub kept_pieces : Sizes → List ℕ → Part → List Piece
kept_pieces s bytes p = flat_map (λ lnum. kept_piece s bytes (built_piece s p lnum)) (range_with_len 0 (pieces_of s p))
