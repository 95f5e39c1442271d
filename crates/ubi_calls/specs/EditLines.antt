-- What a text of edits asks for: a line for each, in the order in which they are done.
use Rattle.std.specs.Prelude.{◌≡◌, ◌<◌, ℕ, ◌+◌, ◌-◌, ◌==◌, Bool, true, List, [], ◌∷◌, ◌++◌, Option, Some, codes, length}
use Rattle.std.specs.List.{list_any, slice_split}
use Rattle.std.specs.Str.{IsUtf8}
use Rattle.ubi_writing.specs.Asks.{AskedEdits, value_in}
use Rattle.ubi_writing.specs.ByteNumbers.{at_most, decimal_number}
use Rattle.ubi_writing.specs.declared.asks.Ask.{Ask}
use Rattle.ubi_writing.specs.declared.asks.Ask.TheVariants as ask

-- parts without the last, if that is empty
abbrev pub without_end : List (List ℕ) → List (List ℕ)
without_end [] = []
without_end ([] ∷ []) = []
without_end (part ∷ parts) = part ∷ without_end parts

-- the lines of a text: what stands before each line feed, and what follows the last one, if anything does
abbrev pub edit_lines : List ℕ → List (List ℕ)
edit_lines text = without_end (slice_split (λ b. b == 10) text)

-- whether a word has a value, which stands behind its first `=`
abbrev pub has_value : List ℕ → Bool
has_value word = list_any (λ b. b == 61) word

-- the number that the value of a word gives in decimal digits, if that is at most the largest
abbrev pub length_in : ℕ → List ℕ → Option ℕ
length_in largest word = at_most largest (decimal_number (value_in word))

-- a line is the one for an edit, if contents are taken up to a place, and so many bytes of them are left
abbrev pub IsLineFor : List ℕ → ℕ → ℕ → Ask → Type 0
IsLineFor line at left (ask.Rename word) = (line ≡ codes "rename " ++ word.now) × (has_value word.now ≡ true)
IsLineFor line at left (ask.Resize word) = (line ≡ codes "resize " ++ word.now) × (has_value word.now ≡ true)
IsLineFor line at left (ask.Remove word) = line ≡ codes "remove " ++ word.now
IsLineFor line at left (ask.Contents word start len) =
    (line ≡ codes "write " ++ word.now) × (start ≡ at) × (length_in left word.now ≡ Some len)

-- a line asks for an edit, if contents have this size, and are taken up to a place
abbrev pub AsksFor : ℕ → ℕ → List ℕ → Ask → Type 0
AsksFor size at line a = IsUtf8 line × IsLineFor line at (size - at) a

-- up to which place contents are taken after an edit
abbrev pub taken_by : ℕ → Ask → ℕ
taken_by at (ask.Contents word start len) = at + len
taken_by at _ = at

-- lines ask for edits, which take contents from a place on up to an end
abbrev pub AskFor : ℕ → ℕ → List (List ℕ) → List Ask → ℕ → Type 0
AskFor size at [] [] end = end ≡ at
AskFor size at (line ∷ lines) (a ∷ asks) end = AsksFor size at line a × AskFor size (taken_by at a) lines asks end
AskFor size at _ _ end = ⊥

-- all that is asked by words alone
abbrev pub by_words : List Ask → AskedEdits
by_words asks = record { asks = asks; volumes = []; paths = [] }

-- a text asks for these edits, and they take all contents, which have this size
abbrev pub AreAsksOf : List ℕ → ℕ → List Ask → Type 0
AreAsksOf text size asks = AskFor size 0 (edit_lines text) asks size

-- which line of a text is wrong, counted from 1: the first that asks for no edit; or the one after the last, if contents are left
pub data IsWrongLine (text : List ℕ) (size : ℕ) : ℕ → Type 0 where
  no_edit : (before : List (List ℕ)) (line : List ℕ) (after : List (List ℕ)) (asks : List Ask) (at : ℕ)
      → edit_lines text ≡ before ++ line ∷ after → AskFor size 0 before asks at → ((a : Ask) → AsksFor size at line a → ⊥)
      → IsWrongLine text size (length before + 1)
  left_over : (asks : List Ask) (end : ℕ) → AskFor size 0 (edit_lines text) asks end → end < size
      → IsWrongLine text size (length (edit_lines text) + 1)
