-- Printed lines of the commands that read images.
use Rattle.std.specs.Prelude.{ℕ, Bool, true, false, List, ◌++◌, codes}
use Rattle.ubi_media.specs.declared.refusal.Refusal.{Refusal}
use Rattle.ubi_compare.specs.declared.difference.Side.{Side}
use Rattle.ubi_files.specs.Lines.{refusal_line, refused_line}
use Rattle.ubi_json.specs.Words.{side_word}

-- the line of one of two images that is refused, after the side on which it stands
abbrev pub side_line : Side → Refusal → List ℕ
side_line side c = side_word side ++ codes " " ++ refusal_line c

-- the line of two images that mean the same, or don't
abbrev pub comparison_line : Bool → List ℕ
comparison_line true = codes "same\n"
comparison_line false = codes "different\n"

-- the line of an eraseblock that isn't in the image
abbrev pub no_block_line : List ℕ
no_block_line = refused_line (codes "B1 Block")
