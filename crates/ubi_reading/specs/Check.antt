-- How the eraseblocks of an image are counted.
use Rattle.std.specs.Prelude.{ℕ, List, [], ◌∷◌, ◌++◌, codes, decimal, length}
use Rattle.std.specs.List.{flat_map}
use Rattle.ubi_media.specs.declared.refusal.Refusal.{Refusal}
use Rattle.ubi_media.specs.Geometry.{Sizes}
use Rattle.ubi_scan.specs.Image.{Image, image_of}
use Rattle.ubi_scan.specs.Source.{Agreed, Source, WhereHeld}
use Rattle.ubi_scan.specs.declared.errors.StreamError.TheVariants as stream
use Rattle.ubi_volume.specs.Accepts.{Refuses}
use Rattle.ubi_volume.specs.Places.{ArePlacesError}
use Rattle.ubi_volume.specs.Survey.{IsSurvey, IsSurveyOf, Seen}
use Rattle.ubi_volume.specs.declared.attached.BlockState.{BlockState}
use Rattle.ubi_volume.specs.declared.attached.BlockState.TheVariants as state
use Rattle.ubi_files.specs.Answer.{Gives, says}
use Rattle.ubi_json.specs.Check.{check_data}
use Rattle.ubi_json.specs.Line.{json_line}
use Rattle.ubi_json.specs.Words.{count_of}
use Rattle.ubi_reading.specs.Formats.{refusal_by_format}
use Rattle.ubi_reading.specs.declared.format.Format.{Format}
use Rattle.ubi_reading.specs.declared.format.Format.TheVariants as format
use Rattle.ubi_files.specs.declared.outcome.Outcome.{Outcome}

-- a number after its word
abbrev pub number_line : List ℕ → ℕ → List ℕ
number_line word n = word ++ decimal n ++ codes "\n"

-- the word of a state
abbrev pub state_word : BlockState → List ℕ
state_word state.Blank = codes "blank "
state_word state.Free = codes "free "
state_word state.Garbage = codes "garbage "
state_word state.Corrupt = codes "corrupt "
state_word state.Dropped = codes "dropped "
state_word state.Orphan = codes "orphan "
state_word state.Table = codes "table "
state_word state.Used = codes "used "
state_word state.Stale = codes "stale "

-- the line that says how many eraseblocks have a state
abbrev pub state_line : List BlockState → BlockState → List ℕ
state_line states of = number_line (state_word of) (count_of states of)

-- the states, in the order in which they are printed
unfoldable pub printed_states : List BlockState
printed_states =
    state.Blank ∷ state.Free ∷ state.Table ∷ state.Used ∷ state.Stale ∷ state.Orphan ∷ state.Dropped ∷ state.Corrupt
    ∷ state.Garbage ∷ []

-- the lines of an image that is surveyed
abbrev pub check_lines : Seen → List ℕ
check_lines a =
    number_line (codes "blocks ") (length a.states) ++ flat_map (state_line a.states) printed_states
    ++ number_line (codes "top sqnum ") a.scan.top_sqnum ++ number_line (codes "image seq ") a.scan.image_seq
    ++ number_line (codes "mean counter ") a.scan.mean_ec ++ codes "accepted\n"

-- what is printed for a survey in a format: those lines, or the line of its object
abbrev pub check_told : Format → Seen → List ℕ
check_told format.Text a = check_lines a
check_told format.Json a = json_line (check_data a)

-- what the command answers for an image: its lines, or the cause of its refusal
pub data Checks (format : Format) (image : Image) : Outcome → Type 0 where
  accepted : {o : Outcome} (a : Seen) → IsSurvey image a → Gives o (says (check_told format a) 0) → Checks format image o
  refused : {o : Outcome} (c : Refusal) → Refuses image c → Gives o (says (refusal_by_format format c) 1) → Checks format image o

-- what it answers for any source: what is printed for its survey, or the cause of its refusal
pub data ChecksFrom (format : Format) (s : Sizes) (k : Source) (agrees : Agreed) : Outcome → Type 0 where
  surveyed : {o : Outcome} (a : Seen) → IsSurveyOf s k agrees a → Gives o (says (check_told format a) 0)
      → ChecksFrom format s k agrees o
  unsurveyed : {o : Outcome} (c : Refusal) → ArePlacesError s k agrees (stream.Refused c)
      → Gives o (says (refusal_by_format format c) 1) → ChecksFrom format s k agrees o

-- what it answers for a source: the answer for the image, whatever the source may hold
abbrev pub ChecksOf : Format → Sizes → Source → Agreed → Outcome → Type 0
ChecksOf format s k agrees o = ChecksFrom format s k agrees o × WhereHeld agrees (λ bytes. Checks format (image_of s bytes) o)
