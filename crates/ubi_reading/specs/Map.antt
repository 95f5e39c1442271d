-- How the eraseblocks of an image are shown one by one: in rows of letters, and on a page.
use Rattle.std.specs.Borrow.{Bor}
use Rattle.std.specs.Prelude.{◌≡◌, ℕ, List, ◌++◌, IsSome, None, Option, Some, codes, length, option_map}
use Rattle.ubi_media.specs.Geometry.{Sizes}
use Rattle.ubi_media.specs.declared.refusal.Refusal.{Refusal}
use Rattle.ubi_scan.specs.Image.{Image, IsLengthFault, IsSizeFault, IsWholeImage, eraseblocks, image_of}
use Rattle.ubi_scan.specs.Source.{Agreed, Source, WhereHeld}
use Rattle.ubi_scan.specs.declared.errors.StreamError.TheVariants as stream
use Rattle.ubi_volume.specs.Accepts.{Accepts, Refuses}
use Rattle.ubi_volume.specs.Meant.{Meant}
use Rattle.ubi_volume.specs.Places.{ArePlacesError}
use Rattle.ubi_volume.specs.Survey.{IsSurvey, IsSurveyOf, Seen}
use Rattle.ubi_files.specs.Answer.{Gives, says}
use Rattle.ubi_files.specs.Disk.{AllStay, Files, OthersStay, Receives, Stays}
use Rattle.ubi_files.specs.Lines.{file_line, refusal_line}
use Rattle.ubi_files.specs.declared.outcome.Outcome.{Outcome}
use Rattle.ubi_dumps.specs.Asked.{OfAsked}
use Rattle.ubi_dumps.specs.declared.asked.Asked.{Asked}
use Rattle.ubi_map.specs.Letters.{header_letters, rows, state_letters}
use Rattle.ubi_map.specs.Map.{map_data, refused_map_data}
use Rattle.ubi_map.specs.Page.{page_of}

-- the rows of an image that is accepted, by the states of its eraseblocks
abbrev pub state_rows : Seen → List ℕ
state_rows a = rows (state_letters a.states)

-- the rows of any eraseblocks, by their headers alone
abbrev pub header_rows : Sizes → List (List ℕ) → List ℕ
header_rows s bs = rows (header_letters s bs (length bs))

-- what the command answers for an image: its rows; or rows by its headers, and then the cause of its refusal; or for bytes
-- that are no image, the cause alone
pub data Maps (image : Image) : Outcome → Type 0 where
  mapped : {o : Outcome} (a : Seen) → IsSurvey image a → Gives o (says (state_rows a) 0) → Maps image o
  no_blocks : {o : Outcome} (c : Refusal) → IsSizeFault image c → Gives o (says (refusal_line c) 1) → Maps image o
  refused_map : {o : Outcome} (c : Refusal) → IsWholeImage image → Refuses image c
      → Gives o (says (header_rows image.sizes (eraseblocks image) ++ refusal_line c) 1) → Maps image o

-- what it answers for any source: the rows of its survey; or some rows and the cause of its refusal; or the cause alone, if it doesn't
-- have the size of an image
pub data MapsFrom (s : Sizes) (k : Source) (agrees : Agreed) : Outcome → Type 0 where
  mapped_from : {o : Outcome} (a : Seen) → IsSurveyOf s k agrees a → Gives o (says (state_rows a) 0) → MapsFrom s k agrees o
  no_blocks_from : {o : Outcome} (c : Refusal) → IsLengthFault s k.size c → Gives o (says (refusal_line c) 1) → MapsFrom s k agrees o
  refused_map_from : {o : Outcome} (c : Refusal) (letters : List ℕ) → ArePlacesError s k agrees (stream.Refused c)
      → Gives o (says (rows letters ++ refusal_line c) 1) → MapsFrom s k agrees o

-- what it answers for a source: the answer for the image, whatever the source may hold
abbrev pub MapsOf : Sizes → Source → Agreed → Outcome → Type 0
MapsOf s k agrees o = MapsFrom s k agrees o × WhereHeld agrees (λ bytes. Maps (image_of s bytes) o)

-- the page of an image: its eraseblocks, with what they mean or why they are refused; bytes that are no image have no page
pub data IsPageOf (image : Image) : Option (List ℕ) → Type 0 where
  accepted_page : (a : Seen) (m : Meant) → IsSurvey image a → Accepts image m
      → IsPageOf image (Some (page_of (map_data (eraseblocks image) a m)))
  refused_page : (c : Refusal) → IsWholeImage image → Refuses image c
      → IsPageOf image (Some (page_of (refused_map_data image.sizes (eraseblocks image) c)))
  no_page : (c : Refusal) → IsSizeFault image c → IsPageOf image None

-- what is answered with a page: what the command answers without one, and the file of the page
pub record WithFile (answers : Outcome → Type 0) (is : Option (List ℕ) → Type 0) (o : Outcome) : Type 0 where
  pub plain : Outcome
  pub answered : answers plain
  pub text : o.text.items ≡ plain.text.items
  pub status : o.status ≡ plain.status
  pub page : is (option_map (λ v. v.items) o.file)

-- what is answered with a page for an image
abbrev pub Pictures : Image → Outcome → Type 0
Pictures image o = WithFile (Maps image) (IsPageOf image) o

-- what is answered with a page for a source
abbrev pub PicturesOf : Sizes → Source → Agreed → Outcome → Type 0
PicturesOf s k agrees o =
    WithFile (MapsFrom s k agrees) (λ page. Unit {0}) o × WhereHeld agrees (λ bytes. Pictures (image_of s bytes) o)

-- what is answered if the page is written: the answer with a page, and the file at a path received it, if there is one; or the line of a
-- file that can't be written
pub data PicturesInto (out : List ℕ) (old new : Files) (answers : Outcome → Type 0) : Outcome → Type 0 where
  pictured : {o : Outcome} → answers o → Receives old new out (option_map (λ v. v.items) o.file) → PicturesInto out old new answers o
  unpictured : {o : Outcome} (made : Outcome) → answers made → IsSome made.file
      → Gives o (says (file_line (codes "cannot write ") out) 1) → PicturesInto out old new answers o

-- what can be answered if a map is asked for: without a page, or with one, which is written
abbrev pub AnswersMap : Files → Files → Asked → List ℕ → Option (Bor (List ℕ)) → Outcome → Type 0
AnswersMap d e dump image None = OfAsked d e dump image MapsOf
AnswersMap d e dump image (Some page) = PicturesInto page.now d e (OfAsked d d dump image PicturesOf)

-- which files hold what they held: all but the page
abbrev pub LeavesMap : Files → Files → List ℕ → Option (Bor (List ℕ)) → Type 0
LeavesMap d e image None = AllStay d e
LeavesMap d e image (Some page) = OthersStay d e page.now × Stays d e image
