-- The dump that is asked for, and what a command can answer over it.
use Rattle.std.specs.Prelude.{◌≡◌, ◌≢◌, ℕ, ◌+◌, ◌≤◌, ◌==◌, ◌&&◌, ◌∷◌, Bool, IsFalse, IsTrue, List, [], length, Some, codes, is_none, true, IfSome, unwrap_or}
use Rattle.ubi_media.specs.Geometry.{Sizes}
use Rattle.ubi_detect.specs.Detected.{AreDetectedOf, IsDetectError}
use Rattle.ubi_detect.specs.Images.{AreImages, AreImagesBeside}
use Rattle.ubi_scan.specs.Source.{Agreed, Source, WhereHeld}
use Rattle.ubi_detect.specs.declared.detect.DetectError.TheVariants as error
use Rattle.ubi_detect.specs.declared.detect.Detected.{Detected}
use Rattle.ubi_detect.specs.declared.detect.Undetected.{Undetected}
use Rattle.ubi_detect.specs.declared.images.Images.{Images}
use Rattle.ubi_files.specs.Answer.{Gives, says}
use Rattle.ubi_files.specs.Disk.{AllStay, Files}
use Rattle.ubi_files.specs.Dump.{greatest_dump}
use Rattle.ubi_dumps.specs.Lines.{images_side_line, undetected_side_line, unlike_line}
use Rattle.ubi_files.specs.Numbers.{numbers_of, sizes_of}
use Rattle.ubi_files.specs.OverFile.{OfFile, WhereRead}
use Rattle.ubi_dumps.specs.declared.asked.Asked.{Asked}
use Rattle.ubi_dumps.specs.declared.asked.Asked.TheVariants as asked
use Rattle.ubi_files.specs.declared.dump.Dump.{Dump}
use Rattle.ubi_dumps.specs.declared.asked.Sought.{Sought}
use Rattle.ubi_files.specs.declared.outcome.Outcome.{Outcome}
use Rattle.ubi_files.specs.declared.view.FilePart.{FilePart}

-- a dump without a geometry in the words, as its own headers show it
abbrev pub told_dump : Sought → Detected → Dump
told_dump sought told = record {
  numbers = record (numbers_of told.geometry) { pebs = sought.pebs };
  part = record { start = sought.part.start + told.start; length = Some told.length };
  oob = told.oob;
  bad = sought.bad;
  counts_before = true;
}

-- whether the words give no part of a file
abbrev pub is_all_of_file : FilePart → Bool
is_all_of_file part = (part.start == 0) && is_none part.length

-- whether a file is split: its images are apart from each other, and the words give no part of it
abbrev pub is_split : FilePart → Images → Bool
is_split part images = is_all_of_file part && images.are_apart

-- this is found first in a source over a part of a file, which isn't split
abbrev pub IsToldFirst : FilePart → Agreed → Detected → Type 0
IsToldFirst part agrees told = (others : List Detected) × (images : Images) × AreDetectedOf agrees (told ∷ others)
    × WhereHeld agrees (λ bytes. AreImages bytes told images) × IsFalse (is_split part images)

-- this is found first by the headers in a part of the file at a path
abbrev pub TellFirst : Files → FilePart → List ℕ → Detected → Type 0
TellFirst d part path told = WhereRead d (greatest_dump part) path (λ _ agrees. IsToldFirst part agrees told)

-- the dump that is asked for: the one that the words give; or if they give no geometry, what its headers show first
pub data IsDump (d : Files) (path : List ℕ) : Asked → Dump → Type 0 where
  given : {dump : Dump} → IsDump d path (asked.Given dump) dump
  told : {sought : Sought} (told : Detected) → TellFirst d sought.part path told
      → IsDump d path (asked.Sought sought) (told_dump sought told)

-- what is answered if the headers of a source over a part of a file show no image to read, after a side: the line of the cause for which
-- they show nothing; or that of all images, if the file is split
pub data TellsNothing (part : FilePart) (side : List ℕ) (k : Source) (agrees : Agreed) : Outcome → Type 0 where
  no_geometry : {o : Outcome} (c : Undetected) → IsDetectError k agrees (error.Undetected c)
      → Gives o (says (undetected_side_line side c) 1) → TellsNothing part side k agrees o
  several : {o : Outcome} (found : List Detected) (images : Images) → AreDetectedOf agrees found
      → WhereHeld agrees (λ bytes. AreImagesBeside bytes found images) → IsTrue (is_split part images)
      → Gives o (says (images_side_line side images.spans.items) 1) → TellsNothing part side k agrees o

-- what is answered if no dump is found: the line of a part of a file that can't be opened; or the line of the cause
abbrev pub IsUntoldDump : Files → List ℕ → List ℕ → Asked → Outcome → Type 0
IsUntoldDump d path side (asked.Given dump) o = ⊥
IsUntoldDump d path side (asked.Sought sought) o = OfFile d (greatest_dump sought.part) path (λ _. TellsNothing sought.part side) o

-- what a command can answer over one image file: if no dump is found, that, and no file is changed; or the answer for the dump
pub data OfAsked (d e : Files) (asked : Asked) (path : List ℕ) (answers : Sizes → Source → Agreed → Outcome → Type 0) : Outcome
    → Type 0 where
  untold : {o : Outcome} → IsUntoldDump d path [] asked o → AllStay d e → OfAsked d e asked path answers o
  of_dump : {o : Outcome} (dump : Dump) → IsDump d path asked dump → OfFile d dump path answers o
      → OfAsked d e asked path answers o

-- what it can answer over two: if no dump is found in one, that; the line of two geometries, if they differ; or the answer for both
pub data OfBoth (d : Files) (asked : Asked) (left right : List ℕ)
    (answers : Sizes → Source → Agreed → Source → Agreed → Outcome → Type 0) : Outcome → Type 0 where
  no_left : {o : Outcome} → IsUntoldDump d left (codes "left ") asked o → OfBoth d asked left right answers o
  no_right : {o : Outcome} (here : Dump) → IsDump d left asked here → IsUntoldDump d right (codes "right ") asked o
      → OfBoth d asked left right answers o
  unlike : {o : Outcome} (here there : Dump) → IsDump d left asked here → IsDump d right asked there → here.numbers ≢ there.numbers
      → Gives o (says (unlike_line (sizes_of here.numbers) (sizes_of there.numbers)) 1) → OfBoth d asked left right answers o
  alike : {o : Outcome} (here there : Dump) → IsDump d left asked here → IsDump d right asked there → here.numbers ≡ there.numbers
      → OfFile d here left (λ s k agrees. OfFile d there right (λ _ l fits. answers s k agrees l fits)) o
      → OfBoth d asked left right answers o

-- all bytes of the file at a path are read as a dump, if it is known what it holds
abbrev pub ReadsAll : Files → Dump → List ℕ → Type 0
ReadsAll d dump path = (dump.part.start ≡ 0) × (dump.oob ≡ 0)
    × IfSome (d.holds path) (λ all. length all ≤ unwrap_or dump.part.length (length all))
