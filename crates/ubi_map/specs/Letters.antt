-- A letter for each eraseblock, in rows.
use Rattle.std.specs.Prelude.{ℕ, ◌*◌, ◌==◌, List, ◌++◌, codes, decimal, drop, if◌then◌else◌, length, take}
use Rattle.std.specs.List.{flat_map, range_with_len}
use Rattle.ubi_media.specs.Geometry.{Sizes}
use Rattle.ubi_media.specs.declared.ec.EcRead.{EcRead}
use Rattle.ubi_media.specs.declared.ec.EcRead.TheVariants as ec_read
use Rattle.ubi_media.specs.declared.vid.VidRead.{VidRead}
use Rattle.ubi_media.specs.declared.vid.VidRead.TheVariants as vid_read
use Rattle.ubi_scan.specs.Image.{block, ec, vid}
use Rattle.ubi_scan.specs.Members.{layout}
use Rattle.ubi_volume.specs.Meant.{pieces}
use Rattle.ubi_volume.specs.declared.attached.BlockState.{BlockState}
use Rattle.ubi_volume.specs.declared.attached.BlockState.TheVariants as state

-- the letter of a state
abbrev pub state_letter : BlockState → List ℕ
state_letter state.Blank = codes "b"
state_letter state.Free = codes "f"
state_letter state.Garbage = codes "g"
state_letter state.Corrupt = codes "c"
state_letter state.Dropped = codes "d"
state_letter state.Orphan = codes "o"
state_letter state.Table = codes "t"
state_letter state.Used = codes "u"
state_letter state.Stale = codes "s"

-- the letters of the eraseblocks of an image that is accepted
abbrev pub state_letters : List BlockState → List ℕ
state_letters states = flat_map state_letter states

-- the letter of an eraseblock by its headers alone: one for a volume, for the table, or for a fault; or else one for having no VID header
abbrev pub header_letter : EcRead → VidRead → List ℕ
header_letter (ec_read.Fault f) v = codes "!"
header_letter e (vid_read.Fault f) = codes "!"
header_letter e (vid_read.Valid h) = if h.vol_id == layout then codes "t" else codes "v"
header_letter ec_read.Corrupt v = codes "c"
header_letter e vid_read.Corrupt = codes "c"
header_letter ec_read.Blank vid_read.Blank = codes "b"
header_letter (ec_read.Valid h) vid_read.Blank = codes "f"

-- the letters of the first n eraseblocks, by their headers alone
abbrev pub header_letters : Sizes → List (List ℕ) → ℕ → List ℕ
header_letters s bs n = flat_map (λ p. header_letter (ec s (block bs p)) (vid s (block bs p))) (range_with_len 0 n)

-- a number, after as many blanks as it lacks of seven digits
abbrev pub aligned : ℕ → List ℕ
aligned n = drop (length (decimal n)) (codes "       ") ++ decimal n

-- a row: the number of the first eraseblock, and then 64 letters
abbrev pub row : List ℕ → ℕ → List ℕ
row letters k = aligned (64 * k) ++ codes " " ++ take 64 (drop (64 * k) letters) ++ codes "\n"

-- all rows
abbrev pub rows : List ℕ → List ℕ
rows letters = flat_map (row letters) (range_with_len 0 (pieces 64 (length letters)))
