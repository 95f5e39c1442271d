-- Eraseblocks that hold something and are read as nothing, and where a fastmap begins.
use Rattle.std.specs.Prelude.{◌≡◌, ◌==◌, ◌<◌, Bool, List, None, Option, Some, ℕ, false, map, true}
use Rattle.std.specs.List.{count_by, range_with_len}
use Rattle.ubi_media.specs.Geometry.{Sizes}
use Rattle.ubi_media.specs.declared.ec.EcRead.{EcRead}
use Rattle.ubi_media.specs.declared.ec.EcRead.TheVariants as ec_read
use Rattle.ubi_media.specs.declared.vid.VidRead.{VidRead}
use Rattle.ubi_media.specs.declared.vid.VidRead.TheVariants as vid_read
use Rattle.ubi_scan.specs.Image.{block, ec, vid}

-- whether an eraseblock with these headers holds something, and is read as nothing: its VID header is corrupt; or its EC header is, and it
-- has no VID header; or its EC header is blank, and it has a VID header all the same
abbrev pub is_passed_over : EcRead → VidRead → Bool
is_passed_over ec_read.Blank vid_read.Blank = false
is_passed_over ec_read.Blank v = true
is_passed_over e vid_read.Corrupt = true
is_passed_over ec_read.Corrupt vid_read.Blank = true
is_passed_over e v = false

-- whether the eraseblock with a number does
abbrev pub passes_over : Sizes → List (List ℕ) → ℕ → Bool
passes_over s bs p = is_passed_over (ec s (block bs p)) (vid s (block bs p))

-- how many of the first n eraseblocks do
abbrev pub count_passed_over : Sizes → List (List ℕ) → ℕ → ℕ
count_passed_over s bs n = count_by (λ is. is) (map (passes_over s bs) (range_with_len 0 n))

-- whether a fastmap begins in an eraseblock with these headers: it is of the volume of fastmaps' beginnings
abbrev pub is_anchor : EcRead → VidRead → Bool
is_anchor ec_read.Blank v = false
is_anchor e (vid_read.Valid h) = h.vol_id == 0x7FFF_F000
is_anchor e v = false

-- whether one does in the eraseblock with a number
abbrev pub anchors : Sizes → List (List ℕ) → ℕ → Bool
anchors s bs p = is_anchor (ec s (block bs p)) (vid s (block bs p))

-- in none of the first n eraseblocks a fastmap begins
abbrev pub NoneAnchors : Sizes → List (List ℕ) → ℕ → Type 0
NoneAnchors s bs n = (p : ℕ) → p < n → anchors s bs p ≡ false

-- this is the first of the first n eraseblocks in which a fastmap begins, if there is one
abbrev pub FirstAnchorIs : Sizes → List (List ℕ) → ℕ → Option ℕ → Type 0
FirstAnchorIs s bs n None = NoneAnchors s bs n
FirstAnchorIs s bs n (Some p) = (p < n) × (anchors s bs p ≡ true) × NoneAnchors s bs p
