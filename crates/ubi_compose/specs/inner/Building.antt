-- The pieces that are built from parts; and what takes the place of the bytes when volumes are judged.
use Rattle.std.specs.Prelude.{ℕ, ◌^◌, ◌<◌, ◌&&◌, List, [], if◌then◌else◌, find, flat_map, not, option_map, Option, ◌==◌}
use Rattle.std.specs.FinMap as finite
use Rattle.std.specs.List.{range_with_len}
use Rattle.std.specs.Option.{option_map_or}
use Rattle.ubi_media.specs.Geometry.{Sizes, slots}
use Rattle.ubi_media.specs.Record.{rec_bytes}
use Rattle.ubi_media.specs.declared.vid.VolKind.{VolKind}
use Rattle.ubi_media.specs.declared.vid.VolKind.TheVariants as kind
use Rattle.ubi_volume.specs.declared.content.Content.{Content}
use Rattle.ubi_volume.specs.declared.content.Content.TheVariants as content
use Rattle.ubi_volume.specs.declared.content.Volume.{Volume}
use Rattle.ubi_compose.specs.Built.{Parts}
use Rattle.ubi_laid.specs.Parts.{Reaches, is_long_part, pieces_of}
use Rattle.ubi_laid.specs.Pieces.{built_piece}
use Rattle.ubi_laid.specs.declared.part.Part.{Part}
use Rattle.ubi_compose.specs.inner.Pieces.{Pieces}

-- a content with no bytes
abbrev pub empty_of : VolKind → Content
empty_of kind.Static = content.Static []
empty_of kind.Dynamic = content.Dynamic finite.empty

-- a content without bytes that a volume can have exactly if it can have those of the part
abbrev pub stand_in : Sizes → Part → Content
stand_in s p = if is_long_part s p && not p.entry.marker then content.Updating else empty_of p.entry.kind

-- the volume of a part with such a content
abbrev pub stand_in_item : Sizes → Part → ℕ × Volume
stand_in_item s p = (p.id, record { entry = p.entry; content = stand_in s p })

-- a source of this size has the bytes of all parts, and its size fits 64 bits
pub record HasParts (size : ℕ) (parts : List Part) : Type 0 where
  pub narrow : size < 2 ^ 64
  pub reaches : Reaches size parts

-- the part whose volume has a number
abbrev pub part_at : Parts → ℕ → Option Part
part_at ps id = find (λ p. p.id == id) ps.of

-- the bytes of the volume table
abbrev pub table_of : Parts → List ℕ
table_of ps =
    flat_map (λ slot. rec_bytes ps.sizes (option_map (λ p. p.entry) (part_at ps slot)))
    (range_with_len 0 (slots ps.sizes))

-- the pieces of all parts
abbrev pub built_pieces : Parts → Pieces
built_pieces ps = record {
  at = λ id lnum. option_map (λ p. built_piece ps.sizes p lnum) (part_at ps id);
  count = λ id. option_map_or (pieces_of ps.sizes) (part_at ps id) 0;
}
