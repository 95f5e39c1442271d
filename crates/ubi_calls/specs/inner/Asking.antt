-- What is answered to a question about images of one geometry.
use Rattle.ubi_media.specs.Geometry.{Sizes}
use Rattle.ubi_scan.specs.Image.{image_of}
use Rattle.ubi_files.specs.declared.outcome.Outcome.{Outcome}
use Rattle.ubi_reading.specs.Check.{Checks}
use Rattle.ubi_reading.specs.Comparisons.{Compares}
use Rattle.ubi_reading.specs.List.{Lists}
use Rattle.ubi_reading.specs.Map.{Maps}
use Rattle.ubi_reading.specs.Show.{Shows}
use Rattle.ubi_reading.specs.declared.format.Format.TheVariants as format
use Rattle.ubi_calls.specs.declared.lines.Question.{Question}
use Rattle.ubi_calls.specs.declared.lines.Question.TheVariants as question

-- what a command answers to the question
abbrev pub answers : Question → Sizes → Outcome → Type 0
answers (question.Check image) s = Checks format.Text (image_of s image.now)
answers (question.List image) s = Lists format.Text (image_of s image.now)
answers (question.Show image block) s = Shows (image_of s image.now) block
answers (question.Map image) s = Maps (image_of s image.now)
answers (question.Compare how left right) s = Compares how (image_of s left.now) (image_of s right.now)
