-- The pieces of the volumes of an image whose places are known.
use Rattle.std.specs.Prelude.{ℕ, None, Option, Some, option_map}
use Rattle.std.specs.FinMap.{get}
use Rattle.std.specs.Option.{option_map_or}
use Rattle.ubi_media.specs.Geometry.{Sizes}
use Rattle.ubi_media.specs.Record.{data_pad, usable}
use Rattle.ubi_media.specs.Vid.{plain}
use Rattle.ubi_media.specs.declared.record.VolumeRecord.{VolumeRecord}
use Rattle.ubi_media.specs.declared.vid.VolKind.TheVariants as kind
use Rattle.ubi_volume.specs.Extract.{share_len}
use Rattle.ubi_volume.specs.Places.{Placed}
use Rattle.ubi_volume.specs.declared.places.PlaceContent.{PlaceContent}
use Rattle.ubi_volume.specs.declared.places.PlaceContent.TheVariants as place
use Rattle.ubi_laid.specs.Laid.{damaged_block, piece_header}
use Rattle.ubi_laid.specs.declared.pieces.Origin.TheVariants as origin
use Rattle.ubi_laid.specs.declared.pieces.Piece.{Piece}
use Rattle.ubi_compose.specs.inner.Pieces.{Pieces}

-- the one piece of a damaged volume
abbrev pub damaged_piece : Sizes → ℕ → VolumeRecord → Piece
damaged_piece s id r = record { header = (damaged_block (data_pad s r) id).header; origin = origin.Nowhere; len = 0 }

-- the piece of a LEB of a static volume, which stands in an eraseblock of the image
abbrev pub static_piece : Sizes → ℕ → VolumeRecord → ℕ → ℕ → ℕ → ℕ → Piece
static_piece s id r lebs bytes lnum at = record {
  header = piece_header (plain kind.Static 0 (data_pad s r) id lnum) lebs (share_len (usable s r) bytes lnum) 0;
  origin = origin.Block at;
  len = share_len (usable s r) bytes lnum;
}

-- the piece of a LEB of a dynamic volume
abbrev pub dynamic_piece : Sizes → ℕ → VolumeRecord → ℕ → ℕ → Piece
dynamic_piece s id r lnum at = record {
  header = plain kind.Dynamic 0 (data_pad s r) id lnum;
  origin = origin.Block at;
  len = usable s r;
}

-- the piece of a LEB, by what its volume reads
abbrev pub stored_piece : Placed → ℕ → ℕ → VolumeRecord → PlaceContent → Option Piece
stored_piece p id lnum r place.Updating = None
stored_piece p id lnum r place.Damaged = Some (damaged_piece p.records.sizes id r)
stored_piece p id lnum r (place.Static lebs bytes) =
    option_map (static_piece p.records.sizes id r lebs bytes lnum) (get p.winners (id, lnum))
stored_piece p id lnum r place.Dynamic =
    option_map (dynamic_piece p.records.sizes id r lnum) (get p.winners (id, lnum))

-- how many LEBs a volume has at most
abbrev pub stored_count : VolumeRecord → PlaceContent → ℕ
stored_count r place.Updating = 0
stored_count r place.Damaged = 1
stored_count r (place.Static lebs bytes) = lebs
stored_count r place.Dynamic = r.reserved

-- the pieces of all volumes
abbrev pub stored_pieces : Placed → Pieces
stored_pieces p = record {
  at = λ id lnum. option_map_or (λ r. option_map_or (stored_piece p id lnum r) (get p.contents id) None)
      (get p.records.of id) None;
  count = λ id. option_map_or (λ r. option_map_or (stored_count r) (get p.contents id) 0) (get p.records.of id) 0;
}
