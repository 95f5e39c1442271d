-- The bytes of LEBs, as they are written in order.
use Rattle.std.specs.Prelude.{◌≡◌, ℕ, List, Option, flat_map}
use Rattle.std.specs.FinMap.{get}
use Rattle.std.specs.List.{range_with_len}
use Rattle.ubi_media.specs.Geometry.{Sizes}
use Rattle.ubi_volume.specs.Extract.{leb_bytes, share_len}
use Rattle.ubi_volume.specs.Places.{Placed}

-- bytes are the first n of the LEB at a place of an image
abbrev pub leb_at : Sizes → ℕ → Option ℕ → List ℕ → List ℕ → Type 0
leb_at s n at image text = text ≡ leb_bytes s n at image

-- the bytes that stand in the first n LEBs of a volume, out of a number of bytes
abbrev pub lebs_bytes : Sizes → Placed → ℕ → ℕ → ℕ → List ℕ → ℕ → List ℕ
lebs_bytes s p id size bytes image n =
    flat_map (λ lnum. leb_bytes s (share_len size bytes lnum) (get p.winners (id, lnum)) image) (range_with_len 0 n)

-- bytes are those in the first n LEBs of a volume
abbrev pub lebs_at : Sizes → Placed → ℕ → ℕ → ℕ → ℕ → List ℕ → List ℕ → Type 0
lebs_at s p id size bytes n image text = text ≡ lebs_bytes s p id size bytes image n
