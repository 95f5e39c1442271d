-- The normal image of a meaning: its eraseblocks, and their bytes. And what normalising gives.
use Rattle.std.specs.Prelude.{ℕ, List, ◌∷◌, ◌++◌, flat_map, ◌≡◌}
use Rattle.std.specs.FinMap.{entries}
use Rattle.ubi_media.specs.Ec.{ec_bytes}
use Rattle.ubi_media.specs.Fields.{filled}
use Rattle.ubi_media.specs.Geometry.{Sizes}
use Rattle.ubi_media.specs.Vid.{plain, vid_bytes}
use Rattle.ubi_media.specs.declared.ec.EcHeader.{EcHeader}
use Rattle.ubi_media.specs.declared.vid.VolKind.TheVariants as kind
use Rattle.ubi_scan.specs.Image.{Image}
use Rattle.ubi_scan.specs.Members.{layout}
use Rattle.ubi_table.specs.Records.{table_bytes}
use Rattle.ubi_volume.specs.Accepts.{Accepts}
use Rattle.ubi_volume.specs.Meant.{Meant, records_of}
use Rattle.ubi_laid.specs.Laid.{Laid, laid_blocks}

-- a copy of the volume table, 0 or 1: a LEB of the layout volume, with the compatibility of being rejected
abbrev pub layout_block : Meant → ℕ → Laid
layout_block m copy = record { header = plain kind.Dynamic 5 0 layout copy; text = table_bytes (records_of m) }

-- the eraseblocks of a meaning: two copies of its table, and then its volumes in ascending order
abbrev pub normal_blocks : Meant → List Laid
normal_blocks m = layout_block m 0 ∷ layout_block m 1 ∷ laid_blocks m.sizes (entries m.volumes)

-- an erase-counter header of the normal image, with its image sequence number
abbrev pub new_ec : ℕ → EcHeader
new_ec seq = record { counter = 0; image_seq = seq }

-- the bytes of an eraseblock: each header and the data at their places, and 0xFF elsewhere
abbrev pub laid_bytes : Sizes → EcHeader → Laid → List ℕ
laid_bytes s ec b =
    filled s.peb_size (filled s.data_offset (filled s.vid_offset (ec_bytes s ec) ++ vid_bytes b.header) ++ b.text)

-- the bytes of the normal image
unfoldable pub normal_bytes : Meant → List ℕ
normal_bytes m = flat_map (laid_bytes m.sizes (new_ec m.image_seq)) (normal_blocks m)

-- bytes are the normal image of what an image means
abbrev pub IsNormalised : Image → List ℕ → Type 0
IsNormalised image out = (m : Meant) × Accepts image m × (out ≡ normal_bytes m)
