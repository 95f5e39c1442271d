-- The two headers of an eraseblock as lines: what each is, and its bytes.
use Rattle.std.specs.Prelude.{◌≡◌, ℕ, List, ◌++◌, codes}
use Rattle.hex.specs.Hex.{encode_lower}
use Rattle.ubi_media.specs.Ec.{ec_reading}
use Rattle.ubi_media.specs.ErrorTexts.{ec_fault_name, vid_fault_name}
use Rattle.ubi_media.specs.Geometry.{Sizes}
use Rattle.ubi_media.specs.Vid.{vid_reading}
use Rattle.ubi_media.specs.declared.ec.EcRead.{EcRead}
use Rattle.ubi_media.specs.declared.ec.EcRead.TheVariants as ec_read
use Rattle.ubi_media.specs.declared.vid.VidRead.{VidRead}
use Rattle.ubi_media.specs.declared.vid.VidRead.TheVariants as vid_read
use Rattle.ubi_scan.specs.Image.{ec_area, vid_area}

-- the word for what an EC header is
abbrev pub ec_state : EcRead → List ℕ
ec_state ec_read.Blank = codes "blank"
ec_state ec_read.Corrupt = codes "corrupt"
ec_state (ec_read.Fault f) = codes "fault:" ++ ec_fault_name f
ec_state (ec_read.Valid _) = codes "valid"

-- the word for what a VID header is
abbrev pub vid_state : VidRead → List ℕ
vid_state vid_read.Blank = codes "blank"
vid_state vid_read.Corrupt = codes "corrupt"
vid_state (vid_read.Fault f) = codes "fault:" ++ vid_fault_name f
vid_state (vid_read.Valid _) = codes "valid"

-- the line of a header: which it is, what it is, and its bytes
abbrev pub header_line : List ℕ → List ℕ → List ℕ → List ℕ
header_line which state bytes = which ++ state ++ codes " " ++ encode_lower bytes ++ codes "\n"

-- the lines of the bytes of an eraseblock's two headers
abbrev pub header_lines : Sizes → List ℕ → List ℕ → List ℕ
header_lines s ec vid =
    header_line (codes "ec ") (ec_state (ec_reading s ec)) ec ++ header_line (codes "vid ") (vid_state (vid_reading s vid)) vid

-- the lines of an eraseblock
abbrev pub block_lines : Sizes → List ℕ → List ℕ
block_lines s b = header_lines s (ec_area b) (vid_area s b)

-- the lines of some bytes of two headers
abbrev pub AreHeaderLines : Sizes → List ℕ → Type 0
AreHeaderLines s lines = (ec : List ℕ) × (vid : List ℕ) × (lines ≡ header_lines s ec vid)
