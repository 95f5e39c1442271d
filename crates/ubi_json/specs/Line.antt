-- The line of some data, and members by their keys.
use Rattle.std.specs.Prelude.{◌≡◌, ◌++◌, ℕ, List, Some, codes}
use Rattle.serde_json.specs.Data.{Data, Members, member, number, string, unsigned}
use Rattle.serde_json.specs.Read.{read}
use Rattle.serde_json.specs.Written.{compact_text}

-- a member that is a number, before others
abbrev pub numbered : List ℕ → ℕ → Members → Members
numbered key n rest = member key (number (unsigned n)) rest

-- a member that is a word, before others
abbrev pub worded : List ℕ → List ℕ → Members → Members
worded key word rest = member key (string word) rest

-- the line of some data: its text, and the end of a line
abbrev pub json_line : Data → List ℕ
json_line d = compact_text d ++ codes "\n"

-- the line is that of the data, and reads as the data
pub record IsLineOf (d : Data) (line : List ℕ) : Type 0 where
  pub text : line ≡ json_line d
  pub reads : read (compact_text d) ≡ Some d
