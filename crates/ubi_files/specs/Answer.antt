-- What a command answers: printed text, an exit status and the bytes of an output file.
use Rattle.std.specs.Prelude.{◌≡◌, ℕ, List, Option, None, option_map}
use Rattle.ubi_files.specs.declared.outcome.Outcome.{Outcome}

-- a text to print, an exit status, and the bytes of an output file, if there is one
pub record Answer : Type 0 where
  pub text : List ℕ
  pub status : ℕ
  pub file : Option (List ℕ)

-- the outcome has the answer's text, status and file
pub record Gives (o : Outcome) (a : Answer) : Type 0 where
  pub text : o.text.items ≡ a.text
  pub status : o.status ≡ a.status
  pub file : option_map (λ v. v.items) o.file ≡ a.file

-- some text and no file
abbrev pub says : List ℕ → ℕ → Answer
says text status = record { text = text; status = status; file = None }
