-- The formats in which commands answer, and what each prints if there is no other answer.
use Rattle.std.specs.Prelude.{List, codes, ℕ}
use Rattle.ubi_media.specs.declared.refusal.Refusal.{Refusal}
use Rattle.ubi_detect.specs.declared.detect.Undetected.{Undetected}
use Rattle.ubi_compare.specs.declared.difference.Side.{Side}
use Rattle.ubi_files.specs.Lines.{refusal_line}
use Rattle.ubi_json.specs.Line.{json_line}
use Rattle.ubi_json.specs.Told.{refusal_data, side_data, undetected_data}
use Rattle.ubi_dumps.specs.Lines.{undetected_line}
use Rattle.ubi_reading.specs.Lines.{side_line}
use Rattle.ubi_reading.specs.declared.format.Format.{Format}
use Rattle.ubi_reading.specs.declared.format.Format.TheVariants as format

-- the word for a format
abbrev pub format_word : Format → List ℕ
format_word format.Text = codes "text"
format_word format.Json = codes "json"

-- what is printed for an image that is refused: the line of the cause, or the line of its object
abbrev pub refusal_by_format : Format → Refusal → List ℕ
refusal_by_format format.Text c = refusal_line c
refusal_by_format format.Json c = json_line (refusal_data c)

-- what is printed if one of two images is refused
abbrev pub side_told : Format → Side → Refusal → List ℕ
side_told format.Text side c = side_line side c
side_told format.Json side c = json_line (side_data side c)

-- what is printed for a file in which no geometry is found
abbrev pub undetected_in : Format → Undetected → List ℕ
undetected_in format.Text c = undetected_line c
undetected_in format.Json c = json_line (undetected_data c)
