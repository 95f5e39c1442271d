-- What the commands that read one image, and write no file, answer.
use Rattle.ubi_media.specs.Geometry.{Sizes}
use Rattle.ubi_scan.specs.Source.{Agreed, Source}
use Rattle.ubi_reading.specs.Check.{ChecksOf}
use Rattle.ubi_reading.specs.Geometry.{DetectsOf}
use Rattle.ubi_reading.specs.List.{ListsOf}
use Rattle.ubi_reading.specs.Map.{MapsOf, PicturesOf}
use Rattle.ubi_reading.specs.Show.{ShowsOf}
use Rattle.ubi_files.specs.declared.outcome.Outcome.{Outcome}
use Rattle.ubi_reading.specs.declared.format.Format.{Format}
use Rattle.ubi_reading.specs.declared.format.Format.TheVariants as format
use Rattle.ubi_reading.specs.declared.readers.Reading.{Reading}
use Rattle.ubi_reading.specs.declared.readers.Reading.TheVariants as reading

-- what a command answers for a source
abbrev pub reads : Reading → Sizes → Source → Agreed → Outcome → Type 0
reads (reading.Geometry part format) s = DetectsOf format part
reads (reading.List format) s = ListsOf format s
reads (reading.Check format) s = ChecksOf format s
reads (reading.Show block) s = ShowsOf block s
reads reading.Map s = MapsOf s
reads reading.Page s = PicturesOf s

-- the format in which a command answers
abbrev pub format_of : Reading → Format
format_of (reading.Geometry part format) = format
format_of (reading.List format) = format
format_of (reading.Check format) = format
format_of (reading.Show block) = format.Text
format_of reading.Map = format.Text
format_of reading.Page = format.Text
