-- The geometries that a dump's own headers give, as JSON.
use Rattle.std.specs.Prelude.{ℕ, ◌+◌, ◌^◌, List, codes, decimal, if◌then◌else◌, map, nat_lt}
use Rattle.serde_json.specs.Data.{Data, array, member, no_members, number, object, string, unsigned}
use Rattle.serde_json.specs.View.{items_of}
use Rattle.ubi_detect.specs.declared.detect.Detected.{Detected}
use Rattle.ubi_detect.specs.declared.images.Span.{Span}
use Rattle.ubi_files.specs.declared.view.FilePart.{FilePart}
use Rattle.ubi_json.specs.Line.{numbered}

-- a place in a file: a number; or its digits, if 64 bits don't hold it, as is so in no file that there is
abbrev pub place_data : ℕ → Data
place_data n = if nat_lt n (2 ^ 64) then number (unsigned n) else string (decimal n)

-- an image that was found in a part of a file: its sizes, how many out-of-band bytes follow each page, and where in the file
-- it lies
abbrev pub detected_data : FilePart → Detected → Data
detected_data part told =
    object
    (numbered (codes "data") told.geometry.data_offset
    (numbered (codes "length") told.length
    (numbered (codes "oob") told.oob
    (numbered (codes "page") told.geometry.page
    (numbered (codes "peb") told.geometry.peb_size
    (member (codes "start") (place_data (part.start + told.start)) (numbered (codes "vid") told.geometry.vid_offset no_members)))))))

-- where an image lies that was found in a part of a file
abbrev pub span_data : FilePart → Span → Data
span_data part span =
    object (numbered (codes "length") span.length (member (codes "start") (place_data (part.start + span.start)) no_members))

-- all that is found, in order, and where all images lie, if there are several
abbrev pub geometries_data : FilePart → List Detected → List Span → Data
geometries_data part found spans =
    object
    (member (codes "geometries") (array (items_of (map (detected_data part) found)))
    (member (codes "images") (array (items_of (map (span_data part) spans))) no_members))
