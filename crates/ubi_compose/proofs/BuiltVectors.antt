-- What is built from parts, on literals.
use Rattle.ubi_compose.proofs.Prelude.{◌≡◌, false, [], ◌∷◌, refl, filled, small, sorted_entries, lebs_of, most_blocks, text_of, text_read, Part}
use Rattle.std.specs.FinMap as finite
use Rattle.ubi_media.specs.declared.vid.VolKind.TheVariants as kind

-- a static volume of 385 bytes in LEBs of 384, and a dynamic one of 258 that uses 256 bytes of each
boot : Part
boot = record {
  id = 7;
  entry = record { reserved = 3; alignment = 1; kind = kind.Static; marker = false; name = 98 ∷ []; flags = 0 };
  start = 1;
  len = 385;
}

map_of : Part
map_of = record {
  id = 2;
  entry = record { reserved = 3; alignment = 256; kind = kind.Dynamic; marker = false; name = 97 ∷ []; flags = 0 };
  start = 0;
  len = 258;
}

-- the table's eraseblocks, and two pieces of each
blocks : most_blocks (record { sizes = small; image_seq = 0; of = boot ∷ map_of ∷ [] }) ≡ 6
unfolding boot map_of
blocks = refl

-- the bytes of a part
text : text_of (1 ∷ 2 ∷ 3 ∷ 4 ∷ 5 ∷ []) (record boot { len = 3 }) ≡ 2 ∷ 3 ∷ 4 ∷ []
unfolding boot
text = refl

-- five bytes in LEBs of four
pieces_kept : finite.entries (lebs_of 4 (1 ∷ 2 ∷ 3 ∷ 4 ∷ 5 ∷ []))
    ≡ (0, 1 ∷ 2 ∷ 3 ∷ 4 ∷ []) ∷ (1, 5 ∷ 255 ∷ 255 ∷ 255 ∷ []) ∷ []
unfolding filled
pieces_kept = sorted_entries ((0, 1 ∷ 2 ∷ 3 ∷ 4 ∷ []) ∷ (1, 5 ∷ 255 ∷ 255 ∷ 255 ∷ []) ∷ []) refl

-- no byte makes no LEB
nothing_kept : finite.entries (lebs_of 4 []) ≡ []
nothing_kept = sorted_entries [] refl

-- a dynamic volume reads 0xFF behind its bytes
read_behind : text_read kind.Dynamic 6 (1 ∷ 2 ∷ []) ≡ 1 ∷ 2 ∷ 255 ∷ 255 ∷ 255 ∷ 255 ∷ []
unfolding filled
read_behind = refl
