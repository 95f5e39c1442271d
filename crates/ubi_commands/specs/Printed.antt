-- What is printed for an answer and where, and the status that the program ends with.
use Rattle.std.specs.Prelude.{◌≡◌, ℕ, ◌<◌, ◌&&◌, ◌||◌, ◌⊎◌, ◌∷◌, [], Bool, List, Option, Result, Ok, Err, codes, false, length, not, take}
use Rattle.std.specs.Io.KnownBytes.{Appends}
use Rattle.std.specs.Str.{bytes_eq}
use Rattle.std.specs.declared.alloc.AllocError.{AllocError}
use Rattle.ubi_files.specs.declared.outcome.Outcome.{Outcome}

-- the status of the outcome, or that of a failure
abbrev pub status_of : Result Outcome AllocError → ℕ
status_of (Ok outcome) = outcome.status
status_of (Err _) = 1

-- the text of the outcome, or one line if memory ran out
abbrev pub printed_text : Result Outcome AllocError → List ℕ
printed_text (Ok outcome) = outcome.text.items
printed_text (Err _) = codes "out of memory\n"

-- the writer received the whole text, and the status is that of the answer; or only a part of it, and the status is 1
abbrev pub IsReported : Option (List ℕ) → Option (List ℕ) → Result Outcome AllocError → ℕ → Type 0
IsReported old new answer status = ((status ≡ status_of answer) × Appends old new (printed_text answer))
    ⊎ ((status ≡ 1) × (n : ℕ) × (n < length (printed_text answer)) × Appends old new (take n (printed_text answer)))

-- the first of some words is the one for standard output
abbrev pub begins_with_stream : List (List ℕ) → Bool
begins_with_stream [] = false
begins_with_stream (word ∷ behind) = bytes_eq word (codes "-")

-- a word, with those behind it, names standard output for a file that is written: the output, or the pages of a plan
abbrev pub names_output : List ℕ → List (List ℕ) → Bool
names_output word behind =
    bytes_eq word (codes "--out=-") || bytes_eq word (codes "--pages=-")
    || ((bytes_eq word (codes "--out") || bytes_eq word (codes "--pages")) && begins_with_stream behind)

-- one of some words does
abbrev pub any_names_output : List (List ℕ) → Bool
any_names_output [] = false
any_names_output (word ∷ behind) = names_output word behind || any_names_output behind

-- words, the program's name first, are of `unpack`
abbrev pub are_of_unpack : List (List ℕ) → Bool
are_of_unpack (name ∷ command ∷ rest) = bytes_eq command (codes "unpack")
are_of_unpack _ = false

-- words, the program's name first, name standard output for a file that is written; `unpack` writes a folder
abbrev pub writes_output : List (List ℕ) → Bool
writes_output words = not (are_of_unpack words) && any_names_output words
