-- Eraseblocks of normal images on literals.
use Rattle.ubi_compose.proofs.Prelude.{◌≡◌, ℕ, false, List, [], ◌∷◌, ◌++◌, length, map, replicate, refl, ap, ◌∙◌, None, Option, flat_map, option_map, repeat, nat_cmp, ap₂, check_from, remainder, filled, empty_record, rec_bytes, vid_bytes, VolumeRecord, small, sorted_entries, Meant, records_of, Volume, no_entries, spare, Laid, laid_blocks, damaged_block, dynamic_block, laid_bytes, layout_block, new_ec, normal_bytes, static_blocks, volume_blocks, record_of}
use Rattle.std.specs.FinMap as finite
use Rattle.ubi_media.specs.Vid.{fields_from}
use Rattle.ubi_media.specs.declared.vid.VolKind.TheVariants as kind
use Rattle.ubi_media.proofs.Words.{words}
use Rattle.ubi_volume.specs.declared.content.Content.TheVariants as content

-- the erase-counter header of each eraseblock
abbrev ec_part : List ℕ
ec_part = words (0x55424923 ∷ 0x01000000 ∷ 0 ∷ 0 ∷ 0x40 ∷ 0x80 ∷ 0 ∷ 0 ∷ 0 ∷ 0 ∷ 0 ∷ 0 ∷ 0 ∷ 0 ∷ 0 ∷ 0x7752b3c4 ∷ [])

-- a spare eraseblock has nothing else
spare_block : spare small 0 ≡ ec_part ++ replicate 448 255
unfolding filled check_from remainder
spare_block = refl

-- a LEB of a dynamic volume with an alignment of 256, which leaves 128 of 384 bytes free
aligned : VolumeRecord
aligned = record { reserved = 9; alignment = 256; kind = kind.Dynamic; marker = false; name = 97 ∷ []; flags = 0 }

dynamic_volume : volume_blocks small 3 aligned (content.Dynamic (finite.from_entries ((7, replicate 256 1) ∷ [])))
    ≡ dynamic_block 128 3 (7, replicate 256 1) ∷ []
unfolding aligned
dynamic_volume = ap (map (dynamic_block 128 3)) (sorted_entries ((7, replicate 256 1) ∷ []) refl)

dynamic_bytes : laid_bytes small (new_ec 0) (dynamic_block 128 3 (7, replicate 256 1)) ≡
    ec_part
    ++ words (0x55424921 ∷ 0x01010000 ∷ 3 ∷ 7 ∷ 0 ∷ 0 ∷ 0 ∷ 0x80 ∷ 0 ∷ 0 ∷ 0 ∷ 0 ∷ 0 ∷ 0 ∷ 0 ∷ 0x084a74eb ∷ [])
    ++ replicate 256 1 ++ replicate 128 255
unfolding filled fields_from check_from remainder
dynamic_bytes = refl

-- a static text of five bytes in LEBs of four
header_and_text : Laid → List ℕ × List ℕ
header_and_text l = (vid_bytes l.header, l.text)

static_volume : map header_and_text (static_blocks 0 4 3 (1 ∷ 2 ∷ 3 ∷ 4 ∷ 5 ∷ [])) ≡ (
  words (0x55424921 ∷ 0x01020000 ∷ 3 ∷ 0 ∷ 0 ∷ 4 ∷ 2 ∷ 0 ∷ 0x49c30432 ∷ 0 ∷ 0 ∷ 0 ∷ 0 ∷ 0 ∷ 0 ∷ 0xe0352373 ∷ []),
  1 ∷ 2 ∷ 3 ∷ 4 ∷ [],
)
    ∷ (
      words (0x55424921 ∷ 0x01020000 ∷ 3 ∷ 1 ∷ 0 ∷ 1 ∷ 2 ∷ 0 ∷ 0x5d97e4fd ∷ 0 ∷ 0 ∷ 0 ∷ 0 ∷ 0 ∷ 0 ∷ 0xc088defe ∷ []),
      5 ∷ [],
    )
    ∷ []
unfolding header_and_text fields_from check_from remainder
static_volume = refl

-- the empty static text has none
no_text : static_blocks 0 4 3 [] ≡ []
no_text = refl

-- the one eraseblock of a damaged volume
damaged_bytes : laid_bytes small (new_ec 0) (damaged_block 0 5) ≡
    ec_part
    ++ words (0x55424921 ∷ 0x01020000 ∷ 5 ∷ 0 ∷ 0 ∷ 1 ∷ 1 ∷ 0 ∷ 0 ∷ 0 ∷ 0 ∷ 0 ∷ 0 ∷ 0 ∷ 0 ∷ 0x7c1c6017 ∷ [])
    ++ replicate 384 255
unfolding filled fields_from check_from remainder
damaged_bytes = refl

-- the meaning without volumes: two copies of the empty table, 1024 bytes
abbrev nothing : Meant
nothing = record { sizes = small; image_seq = 0; volumes = finite.empty }

no_record : (id : ℕ) → finite.get (records_of nothing).of id ≡ None
no_record id = record_of nothing id ∙ ap (λ (o : Option Volume). option_map (λ (v : Volume). v.entry) o)
    (finite.get-empty nat_cmp id)

abbrev copy : List ℕ → List ℕ
copy header =
    ec_part ++ words header ++ repeat 2 (replicate 168 0 ++ words (0xf116c36b ∷ [])) ++ replicate 40 255

abbrev with_records : ℕ → Option VolumeRecord → Option VolumeRecord → List ℕ
with_records number a b =
    laid_bytes small (new_ec 0)
    (record (layout_block nothing number) { text = rec_bytes small a ++ (rec_bytes small b ++ []) })

empty_image : normal_bytes nothing ≡
    copy (0x55424921 ∷ 0x01010005 ∷ 0x7fffefff ∷ 0 ∷ 0 ∷ 0 ∷ 0 ∷ 0 ∷ 0 ∷ 0 ∷ 0 ∷ 0 ∷ 0 ∷ 0 ∷ 0 ∷ 0xb82564a8 ∷ [])
    ++ copy (0x55424921 ∷ 0x01010005 ∷ 0x7fffefff ∷ 1 ∷ 0 ∷ 0 ∷ 0 ∷ 0 ∷ 0 ∷ 0 ∷ 0 ∷ 0 ∷ 0 ∷ 0 ∷ 0 ∷ 0x1bb34ce4 ∷ [])
unfolding normal_bytes rec_bytes filled empty_record fields_from check_from remainder
empty_image =
    ap (λ (es : List (ℕ × Volume)). flat_map (laid_bytes small (new_ec 0))
    (layout_block nothing 0 ∷ layout_block nothing 1 ∷ laid_blocks small es)) no_entries
    ∙ ap₂ (λ a b. with_records 0 a b ++ (with_records 1 a b ++ [])) (no_record 0) (no_record 1)

empty_size : length (normal_bytes nothing) ≡ 1024
empty_size = ap length empty_image
