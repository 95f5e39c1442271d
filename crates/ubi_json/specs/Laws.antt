-- Laws of the JSON, as they stand on functions that do nothing.
use Rattle.std.specs.Prelude.{◌≡◌, ◌++◌, codes, nat_le, true}
use Rattle.std.specs.List.{list_all}
use Rattle.serde_json.specs.Data.{Data}
use Rattle.serde_json.specs.Written.{compact_text}
use Rattle.ubi_media.specs.ErrorTexts.{refusal_text}
use Rattle.ubi_media.specs.declared.refusal.Refusal.{Refusal}
use Rattle.ubi_detect.specs.ErrorTexts.{undetected_text}
use Rattle.ubi_detect.specs.declared.detect.Undetected.{Undetected}
use Rattle.ubi_compare.specs.ErrorTexts.{compare_error_text}
use Rattle.ubi_compare.specs.declared.difference.Side.{Side}
use Rattle.ubi_compare.specs.declared.difference.Side.TheVariants as side
use Rattle.ubi_compare.specs.declared.errors.CompareError.{CompareError}
use Rattle.ubi_compare.specs.declared.errors.CompareError.TheVariants as error
use Rattle.ubi_json.specs.Told.{refusal_told, told_text, undetected_told}
use Rattle.ubi_json.specs.Words.{side_word}

-- one of two images is refused
abbrev pub refused_at : Side → Refusal → CompareError
refused_at side.Left c = error.Left c
refused_at side.Right c = error.Right c

-- the printed line of a cause says the same as its JSON: the code, the name, each number under its word, and the name of the rule;
-- and the side, if it is one of two images
pub record TellAlike : Type 0 where
  pub refusals : (c : Refusal) → refusal_text c ≡ told_text (refusal_told c)
  pub undetected : (c : Undetected) → undetected_text c ≡ told_text (undetected_told c)
  pub sides : (s : Side) (c : Refusal) → compare_error_text (refused_at s c) ≡ side_word s ++ codes " " ++ told_text (refusal_told c)

-- the text of any data is one line: no byte of it is below 0x20
abbrev pub OneLine : Type 0
OneLine = (d : Data) → list_all (λ b. nat_le 0x20 b) (compact_text d) ≡ true
