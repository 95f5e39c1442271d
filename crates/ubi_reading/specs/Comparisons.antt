-- What the commands that compare two images answer: `same` and `diff`.
use Rattle.std.specs.Prelude.{◌≡◌, ◌≢◌, ◌⊎◌, ◌==◌, ℕ, ◌++◌, Bool, List, ◌∷◌, [], codes, decimal, false, flat_map, if◌then◌else◌, true}
use Rattle.hex.specs.Hex.{encode_lower}
use Rattle.ubi_media.specs.Geometry.{Sizes}
use Rattle.ubi_media.specs.declared.refusal.Refusal.{Refusal}
use Rattle.ubi_scan.specs.Image.{Image, image_of}
use Rattle.ubi_scan.specs.Source.{Agreed, Source}
use Rattle.ubi_scan.specs.declared.errors.StreamError.TheVariants as stream
use Rattle.ubi_volume.specs.Accepts.{Accepts, Refuses}
use Rattle.ubi_volume.specs.Meant.{Meant}
use Rattle.ubi_volume.specs.Places.{ArePlacesError}
use Rattle.ubi_compare.specs.Compared.{WhereBothHeld}
use Rattle.ubi_compare.specs.Differences.{differences}
use Rattle.ubi_compare.specs.declared.difference.Difference.{Difference}
use Rattle.ubi_compare.specs.declared.difference.Difference.TheVariants as difference
use Rattle.ubi_compare.specs.declared.difference.Side.TheVariants as side
use Rattle.ubi_files.specs.Answer.{Gives, says}
use Rattle.ubi_json.specs.Differences.{are_none, differences_data, same_data}
use Rattle.ubi_json.specs.Line.{json_line}
use Rattle.ubi_json.specs.Words.{condition_word, kind_word, side_word}
use Rattle.ubi_words.specs.Shown.{shown}
use Rattle.ubi_reading.specs.Formats.{side_told}
use Rattle.ubi_reading.specs.Lines.{comparison_line}
use Rattle.ubi_files.specs.declared.outcome.Outcome.{Outcome}
use Rattle.ubi_reading.specs.declared.format.Format.{Format}
use Rattle.ubi_reading.specs.declared.format.Format.TheVariants as format
use Rattle.ubi_reading.specs.declared.comparison.Comparison.{Comparison}
use Rattle.ubi_reading.specs.declared.comparison.Comparison.TheVariants as comparison

-- what stands on either side
abbrev pub side_words : List ℕ → List ℕ → List ℕ
side_words left right = codes " left=" ++ left ++ codes " right=" ++ right ++ codes "\n"

-- the beginning of a line of a volume
abbrev pub volume_words : ℕ → List ℕ → List ℕ
volume_words id word = codes "volume " ++ decimal id ++ codes " " ++ word

-- a range of LEBs: only one number if it has only one
abbrev pub range_words : ℕ → ℕ → List ℕ
range_words first last = if first == last then decimal first else decimal first ++ codes "-" ++ decimal last

-- the line of a difference
abbrev pub difference_line : Difference → List ℕ
difference_line (difference.ImageSeq a b) = codes "seq" ++ side_words (decimal a) (decimal b)
difference_line (difference.Only id s) = volume_words id (codes "only ") ++ side_word s ++ codes "\n"
difference_line (difference.Kind id a b) = volume_words id (codes "kind") ++ side_words (kind_word a) (kind_word b)
difference_line (difference.Reserved id a b) = volume_words id (codes "reserved") ++ side_words (decimal a) (decimal b)
difference_line (difference.Alignment id a b) = volume_words id (codes "alignment") ++ side_words (decimal a) (decimal b)
difference_line (difference.Flags id a b) =
    volume_words id (codes "flags") ++ side_words (encode_lower (a ∷ [])) (encode_lower (b ∷ []))
difference_line (difference.Name id a b) = volume_words id (codes "name") ++ side_words (shown a) (shown b)
difference_line (difference.Condition id a b) =
    volume_words id (codes "contents") ++ side_words (condition_word a) (condition_word b)
difference_line (difference.Bytes id a b) = volume_words id (codes "bytes") ++ side_words (decimal a) (decimal b)
difference_line (difference.Lebs id first last) = volume_words id (codes "lebs ") ++ range_words first last ++ codes "\n"

-- the status of a comparison
abbrev pub comparison_status : Bool → ℕ
comparison_status true = 0
comparison_status false = 1

-- a line for each difference, and whether there are none
abbrev pub differences_text : List Difference → List ℕ
differences_text ds = flat_map difference_line ds ++ comparison_line (are_none ds)

-- what is printed in a format for two images that mean the same, or don't: that line, or the line of its object
abbrev pub same_told : Format → Bool → List ℕ
same_told format.Text same = comparison_line same
same_told format.Json same = json_line (same_data same)

-- what is printed in a format for the differences of two images
abbrev pub differences_told : Format → List Difference → List ℕ
differences_told format.Text ds = differences_text ds
differences_told format.Json ds = json_line (differences_data ds)

-- the format in which a comparison is answered
abbrev pub comparison_format : Comparison → Format
comparison_format (comparison.Same format) = format
comparison_format (comparison.Diff format) = format

-- what is answered for two meanings: whether they are the same, or where they differ
abbrev pub AnswersOf : Comparison → Meant → Meant → Outcome → Type 0
AnswersOf (comparison.Same format) m n o =
    ((m ≡ n) × Gives o (says (same_told format true) 0)) ⊎ ((m ≢ n) × Gives o (says (same_told format false) 1))
AnswersOf (comparison.Diff format) m n o =
    Gives o (says (differences_told format (differences m n)) (comparison_status (are_none (differences m n))))

-- what a command answers for two images: the answer for their meanings, or what is printed for the first one that is refused
pub data Compares (how : Comparison) (left right : Image) : Outcome → Type 0 where
  compared : {o : Outcome} (m n : Meant) → Accepts left m → Accepts right n → AnswersOf how m n o → Compares how left right o
  left_refused : {o : Outcome} (c : Refusal) → Refuses left c → Gives o (says (side_told (comparison_format how) side.Left c) 1)
      → Compares how left right o
  right_refused : {o : Outcome} (m : Meant) (c : Refusal) → Accepts left m → Refuses right c
      → Gives o (says (side_told (comparison_format how) side.Right c) 1) → Compares how left right o

-- what can be answered for any two sources that were compared
abbrev pub AnswersAny : Comparison → Outcome → Type 0
AnswersAny (comparison.Same format) o = (answer : Bool) × Gives o (says (same_told format answer) (comparison_status answer))
AnswersAny (comparison.Diff format) o =
    (ds : List Difference) × Gives o (says (differences_told format ds) (comparison_status (are_none ds)))

-- what it answers for any two sources: such an answer, or what is printed for the first one that is refused
pub data ComparesFrom (how : Comparison) (s : Sizes) (k : Source) (left : Agreed) (l : Source) (right : Agreed) : Outcome → Type 0 where
  compared_from : {o : Outcome} → AnswersAny how o → ComparesFrom how s k left l right o
  left_refused_from : {o : Outcome} (c : Refusal) → ArePlacesError s k left (stream.Refused c)
      → Gives o (says (side_told (comparison_format how) side.Left c) 1) → ComparesFrom how s k left l right o
  right_refused_from : {o : Outcome} (c : Refusal) → ArePlacesError s l right (stream.Refused c)
      → Gives o (says (side_told (comparison_format how) side.Right c) 1) → ComparesFrom how s k left l right o

-- what it answers for two sources: the answer for the images, whatever the sources may hold
abbrev pub ComparesOf : Comparison → Sizes → Source → Agreed → Source → Agreed → Outcome → Type 0
ComparesOf how s k left l right o =
    ComparesFrom how s k left l right o × WhereBothHeld left right (λ x y. Compares how (image_of s x) (image_of s y) o)
