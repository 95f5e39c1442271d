-- The pieces of a normal image, each given by where its bytes lie in a source, and what a writer receives of them.
use Rattle.std.specs.Prelude.{◌≡◌, ℕ, ◌+◌, ◌^◌, ◌<◌, ◌≤◌, List, [], ◌++◌, if◌then◌else◌, flat_map, MatchOption, None, Option, Some, Result, Ok, Err}
use Rattle.std.specs.List.{range_with_len}
use Rattle.std.specs.Option.{option_map_or}
use Rattle.ubi_media.specs.Geometry.{Sizes, slots}
use Rattle.ubi_media.specs.Vid.{plain}
use Rattle.ubi_media.specs.declared.vid.VolKind.TheVariants as kind
use Rattle.ubi_scan.specs.Members.{layout}
use Rattle.ubi_scan.specs.Source.{Agreed, Source, failed}
use Rattle.ubi_volume.specs.Wrote.{All, First, NotAll, Wrote}
use Rattle.ubi_compose.specs.Building.{those}
use Rattle.ubi_compose.specs.Composed.{spare}
use Rattle.ubi_compose.specs.Normal.{laid_bytes, new_ec}
use Rattle.ubi_compose.specs.declared.errors.PutError.{PutError}
use Rattle.ubi_compose.specs.declared.errors.PutError.TheVariants as put
use Rattle.ubi_compose.specs.declared.sourced.Device.{Device}
use Rattle.ubi_laid.specs.Pieces.{IsReadOf, checked_header, is_left_out, piece_text}
use Rattle.ubi_laid.specs.declared.pieces.Origin.TheVariants as origin
use Rattle.ubi_laid.specs.declared.pieces.Piece.{Piece}

-- the eraseblock of a piece
abbrev pub piece_bytes : Device → Piece → List ℕ → List ℕ
piece_bytes d q bytes =
    if is_left_out q.header.kind (piece_text d.geometry q.origin q.len bytes) then []
    else laid_bytes d.geometry (new_ec d.image_seq) (record {
      header = checked_header q.header.kind d.geometry q.header q.origin q.len bytes;
      text = piece_text d.geometry q.origin q.len bytes;
    })

-- the pieces of volumes: the one of each logical eraseblock, if it has any, and how many logical eraseblocks a volume has
-- at most
pub record Pieces : Type 0 where
  pub at : ℕ → ℕ → Option Piece
  pub count : ℕ → ℕ

-- the first piece of a volume from a logical eraseblock on
pub record IsFirstFrom (ps : Pieces) (id from : ℕ) (q : Piece) : Type 0 where
  pub low : from ≤ q.header.lnum
  pub inside : q.header.lnum < ps.count id
  pub few : ps.count id ≤ 2 ^ 31
  pub there : ps.at id q.header.lnum ≡ Some q
  pub none : (lnum : ℕ) → from ≤ lnum → lnum < q.header.lnum → ps.at id lnum ≡ None

-- the next piece of a volume from a logical eraseblock on, or none if none is left
abbrev pub IsNext : Pieces → ℕ → ℕ → Option Piece → Type 0
IsNext ps id from next = MatchOption next
    ((lnum : ℕ) → from ≤ lnum → lnum < ps.count id → ps.at id lnum ≡ None) (IsFirstFrom ps id from)

-- one of the pieces is that of such a read
abbrev pub IsReadIn : Sizes → Pieces → ℕ → ℕ → Type 0
IsReadIn s ps at number =
    (id lnum : ℕ) × (q : Piece) × (lnum < ps.count id) × (ps.at id lnum ≡ Some q)
    × IsReadOf s q.origin q.header at number

-- the eraseblock of a logical eraseblock
abbrev pub leb_written : Device → Pieces → ℕ → ℕ → List ℕ → List ℕ
leb_written d ps id lnum bytes = option_map_or (λ q. piece_bytes d q bytes) (ps.at id lnum) []

-- the eraseblocks of the first n logical eraseblocks of a volume
abbrev pub first_lebs : Device → Pieces → ℕ → ℕ → List ℕ → List ℕ
first_lebs d ps id n bytes = flat_map (λ lnum. leb_written d ps id lnum bytes) (range_with_len 0 n)

-- the eraseblocks of all logical eraseblocks of a volume
abbrev pub volume_bytes : Device → Pieces → ℕ → List ℕ → List ℕ
volume_bytes d ps id = first_lebs d ps id (ps.count id)

-- the eraseblocks of the volumes whose numbers are below n
abbrev pub first_volumes : Device → Pieces → ℕ → List ℕ → List ℕ
first_volumes d ps n bytes = flat_map (λ id. volume_bytes d ps id bytes) (range_with_len 0 n)

-- a copy of the volume table, 0 or 1
abbrev pub table_block : Device → List ℕ → ℕ → List ℕ → List ℕ
table_block d table copy bytes =
    laid_bytes d.geometry (new_ec d.image_seq) (record { header = plain kind.Dynamic 5 0 layout copy; text = table })

-- both copies of the volume table
abbrev pub tables_bytes : Device → List ℕ → List ℕ → List ℕ
tables_bytes d table bytes = table_block d table 0 bytes ++ table_block d table 1 bytes

-- n spare eraseblocks
abbrev pub spares_bytes : Device → ℕ → List ℕ → List ℕ
spares_bytes d n bytes = flat_map (λ _. spare d.geometry d.image_seq) (range_with_len 0 n)

-- the tables, the volumes and n spare eraseblocks
abbrev pub image_bytes : Device → List ℕ → Pieces → ℕ → List ℕ → List ℕ
image_bytes d table ps n bytes =
    (tables_bytes d table bytes ++ first_volumes d ps (slots d.geometry) bytes) ++ spares_bytes d n bytes

-- no read failed
abbrev pub NoRead : ℕ → Type 0
NoRead number = ⊥

-- what a writer received of bytes that a function gives for the source's: all; or if a read failed, the first ones; or if
-- a write failed, not all
abbrev pub HasPut : (ℕ → Type 0) → Agreed → Option (List ℕ) → Option (List ℕ) → (List ℕ → List ℕ) → ℕ → Result ℕ PutError → Type 0
HasPut IsRead agrees old new f before (Ok n) = Wrote agrees old new (those f) All before n
HasPut IsRead agrees old new f before (Err (put.Read number n)) =
    IsRead number × Wrote agrees old new (those f) First before n
HasPut IsRead agrees old new f before (Err (put.Write n)) = Wrote agrees old new (those f) NotAll before n

-- what is known of the source afterwards
abbrev pub known_put : Source → Result ℕ PutError → Source
known_put k (Ok _) = k
known_put k (Err (put.Read _ _)) = failed k
known_put k (Err (put.Write _)) = k
