-- What is printed for the geometries that a dump's own headers give.
use Rattle.std.specs.Prelude.{◌≢◌, ℕ, ◌+◌, ◌==◌, ◌&&◌, Bool, List, [], ◌++◌, codes, decimal, if◌then◌else◌, is_none, length}
use Rattle.std.specs.List.{flat_map}
use Rattle.ubi_media.specs.Geometry.{Sizes}
use Rattle.ubi_detect.specs.Detected.{AreDetected, AreDetectedOf, IsDetectError, IsUndetected}
use Rattle.ubi_scan.specs.Source.{Agreed, Source, WhereHeld}
use Rattle.ubi_detect.specs.declared.detect.DetectError.TheVariants as error
use Rattle.ubi_detect.specs.declared.detect.Detected.{Detected}
use Rattle.ubi_detect.specs.Images.{AreImagesBeside}
use Rattle.ubi_detect.specs.declared.detect.Undetected.{Undetected}
use Rattle.ubi_detect.specs.declared.images.Images.{Images}
use Rattle.ubi_detect.specs.declared.images.Span.{Span}
use Rattle.ubi_files.specs.Answer.{Gives, says}
use Rattle.ubi_json.specs.Geometry.{geometries_data}
use Rattle.ubi_json.specs.Line.{json_line}
use Rattle.ubi_reading.specs.Formats.{undetected_in}
use Rattle.ubi_reading.specs.declared.format.Format.{Format}
use Rattle.ubi_reading.specs.declared.format.Format.TheVariants as format
use Rattle.ubi_files.specs.declared.outcome.Outcome.{Outcome}
use Rattle.ubi_files.specs.declared.view.FilePart.{FilePart}

-- the options that give the other commands the sizes of a device
unfoldable pub sizes_options : Sizes → List ℕ
sizes_options s =
    codes "--peb " ++ decimal s.peb_size ++ codes " --page " ++ decimal s.page ++ codes " --vid " ++ decimal s.vid_offset
    ++ codes " --data " ++ decimal s.data_offset

-- the option that gives them how many out-of-band bytes follow each page, if some do
abbrev pub oob_option : ℕ → List ℕ
oob_option oob = if oob == 0 then [] else codes " --oob " ++ decimal oob

-- whether what is found in a part of n bytes is the whole file; it isn't if the words say how long the part is, as the file may
-- be longer
abbrev pub is_whole_file : FilePart → ℕ → Detected → Bool
is_whole_file part n told = is_none part.length && (part.start == 0) && (told.start == 0) && (told.length == n)

-- the options that give them which part of the file the image is, if it isn't the whole file: it begins this many bytes after the
-- start of the part in which it was found
abbrev pub part_options : FilePart → ℕ → Detected → List ℕ
part_options part n told =
    if is_whole_file part n told then [] else codes " --start " ++ decimal (part.start + told.start) ++ codes " --length " ++ decimal told.length

-- the options that give them what is found in a part of n bytes
unfoldable pub options : FilePart → ℕ → Detected → List ℕ
options part n told = sizes_options told.geometry ++ oob_option told.oob ++ part_options part n told

-- the line of these options
abbrev pub options_line : FilePart → ℕ → Detected → List ℕ
options_line part n told = options part n told ++ codes "\n"

-- the lines of all that is found, in order
abbrev pub options_lines : FilePart → ℕ → List Detected → List ℕ
options_lines part n found = flat_map (options_line part n) found

-- the line of where an image lies that was found in a part of a file, as options
abbrev pub span_line : FilePart → Span → List ℕ
span_line part span = codes "--start " ++ decimal (part.start + span.start) ++ codes " --length " ++ decimal span.length ++ codes "\n"

-- the lines of all that is found, and then of where all images lie, if there are several
abbrev pub geometry_lines : FilePart → ℕ → List Detected → List Span → List ℕ
geometry_lines part n found spans = options_lines part n found ++ flat_map (span_line part) spans

-- what is printed in a format for them: those lines, or the line of their object
abbrev pub geometry_told : Format → FilePart → ℕ → List Detected → List Span → List ℕ
geometry_told format.Text part n found spans = geometry_lines part n found spans
geometry_told format.Json part n found spans = json_line (geometries_data part found spans)

-- what the command answers for the bytes of a part of a file: what is printed for them, or the cause for which nothing is found
pub data Detects (format : Format) (part : FilePart) (bytes : List ℕ) : Outcome → Type 0 where
  detected : {o : Outcome} (found : List Detected) (images : Images) → AreDetected bytes found → AreImagesBeside bytes found images
      → Gives o (says (geometry_told format part (length bytes) found images.spans.items) 0) → Detects format part bytes o
  undetected : {o : Outcome} (c : Undetected) → IsUndetected bytes c → Gives o (says (undetected_in format c) 1)
      → Detects format part bytes o

-- what it answers for any source: what is printed for whatever it may hold; or a cause, which applies to whatever it may hold
pub data DetectsFrom (format : Format) (part : FilePart) (k : Source) (agrees : Agreed) : Outcome → Type 0 where
  detected_from : {o : Outcome} (found : List Detected) (images : Images) → AreDetectedOf agrees found → found ≢ []
      → WhereHeld agrees (λ bytes. AreImagesBeside bytes found images)
      → Gives o (says (geometry_told format part k.size found images.spans.items) 0) → DetectsFrom format part k agrees o
  undetected_from : {o : Outcome} (c : Undetected) → IsDetectError k agrees (error.Undetected c)
      → Gives o (says (undetected_in format c) 1) → DetectsFrom format part k agrees o

-- what it answers for a source: the answer for the bytes, whatever the source may hold
abbrev pub DetectsOf : Format → FilePart → Source → Agreed → Outcome → Type 0
DetectsOf format part k agrees o = DetectsFrom format part k agrees o × WhereHeld agrees (λ bytes. Detects format part bytes o)
